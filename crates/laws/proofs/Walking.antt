-- One call is a walk over its bytes: what follows it walks on from where it ended, over what it left unread.
use Rattle.std.proofs.Common.{◌≡◌, ℕ, suc, ◌+◌, ◌<◌, ◌≤◌, Bool, true, false, eqb, ltb, ◌≢◌, List, [], ◌∷◌, ◌++◌, length, drop, sym, refl, ap, ◌∙◌, append_assoc, arith, length-drop, ltb-false, ltb-true, eqb-true}
use borrow.Author.Tests.{eqb-false}
use Rattle.decoding.specs.Answer.{Listed, message, more, refused, used}
use Rattle.decoding.specs.Call.{Outcome, next, run}
use Rattle.decoding.proofs.Cut.{feed_answered, feed_append, message_not_more, refused_not_more, shift}
use Rattle.decoding.proofs.Progress.{more_uses_all, run_uses, uses_a_byte}
use Rattle.decoding.proofs.Runs.{next_closed, next_runs, next_short}
use Rattle.stream_meaning.specs.Stream.{Message}
use Rattle.laws.specs.Walk.{Fed, Stand, Teller, answered, before, call, called, fed, goes_on, leaving, silent, walk}

-- a decoder uses bytes, or none
pub data Uses {S : Type 0} (s : Stand S) : Type 0 where
  ready : s.decoder.closed ≡ 0 → s.decoder.setting.room ≤ length s.buffer → Uses s
  closed : s.decoder.closed ≢ 0 → Uses s
  short : s.decoder.closed ≡ 0 → length s.buffer < s.decoder.setting.room → Uses s

pub uses : {S : Type 0} (s : Stand S) → Uses s
uses s = by_tests (eqb s.decoder.closed 0) (ltb (length s.buffer) s.decoder.setting.room) refl refl
  where
    by_tests : (t u : Bool) → eqb s.decoder.closed 0 ≡ t → ltb (length s.buffer) s.decoder.setting.room ≡ u → Uses s
    by_tests true true e f = short (eqb-true _ _ e) (ltb-true _ _ f)
    by_tests true false e f = ready (eqb-true _ _ e) (ltb-false _ _ f)
    by_tests false u e f = closed (eqb-false _ _ e)

module _ {S : Type 0} (t : Teller S) where
  -- a call is what its outcome says
  pub call_is : (piece : List ℕ) (s : Stand S) (o : Outcome) → next s.decoder piece s.buffer ≡ o → call t piece s ≡ called t piece o s.seen
  unfolding call
  call_is piece s o e = ap (λ (x : Outcome). called t piece x s.seen) e

  -- that uses nothing
  pub call_closed : (piece : List ℕ) (s : Stand S) → s.decoder.closed ≢ 0 → call t piece s ≡ fed [] s piece
  call_closed piece s n = call_is piece s _ (next_closed s.decoder piece s.buffer n)

  pub call_short : (piece : List ℕ) (s : Stand S) → length s.buffer < s.decoder.setting.room → call t piece s ≡ fed [] s piece
  call_short piece s l = by_use (uses s)
    where
      by_use : Uses s → call t piece s ≡ fed [] s piece
      by_use (ready e long) = absurd (omega (arith, l, long))
      by_use (closed n) = call_closed piece s n
      by_use (short e l) = call_is piece s _ (next_short s.decoder piece s.buffer e l)

  pub call_nothing : (s : Stand S) → call t [] s ≡ fed [] s []
  unfolding run
  call_nothing s = by_use (uses s)
    where
      by_use : Uses s → call t [] s ≡ fed [] s []
      by_use (ready e l) = call_is [] s _ (next_runs s.decoder [] s.buffer e l)
      by_use (closed n) = call_closed [] s n
      by_use (short e l) = call_short [] s l

  -- a walk's first byte: unread, and all with it
  walk_stuck : (b : ℕ) (bytes : List ℕ) (s : Stand S) → call t (b ∷ []) s ≡ fed [] s (b ∷ []) → walk t (b ∷ bytes) s ≡ fed [] s (b ∷ bytes)
  unfolding walk
  walk_stuck b bytes s e = ap (λ (f : Fed S). goes_on f f.unread bytes (walk t bytes f.stand)) e

  -- or used
  walk_byte : (b : ℕ) (bytes : List ℕ) (s : Stand S) (f : Fed S) → call t (b ∷ []) s ≡ f → f.unread ≡ []
      → walk t (b ∷ bytes) s ≡ before f.messages (walk t bytes f.stand)
  unfolding walk
  walk_byte b bytes s f e u =
      ap (λ (f : Fed S). goes_on f f.unread bytes (walk t bytes f.stand)) e
      ∙ ap (λ (l : List ℕ). goes_on f l bytes (walk t bytes f.stand)) u

  -- a count from one byte on
  past_one : (b : ℕ) (bytes : List ℕ) (n : ℕ) → drop (1 + n) (b ∷ bytes) ≡ drop n bytes
  past_one b bytes n = let q : 1 + n ≡ suc n = omega arith in ap (λ (k : ℕ). drop k (b ∷ bytes)) q

  called_shift : (b : ℕ) (bytes : List ℕ) (o : Outcome) (seen : S) → called t (b ∷ bytes) (shift 1 o) seen ≡ called t bytes o seen
  called_shift b bytes o seen = by_answer o.answer refl
    where
      by_answer : (l : Listed) → o.answer ≡ l → called t (b ∷ bytes) (shift 1 o) seen ≡ called t bytes o seen
      by_answer (message type stream time long n) e = rw (e, past_one b bytes n)
      by_answer (more n) e = rw (e, past_one b bytes n)
      by_answer (refused number n) e = rw (e, past_one b bytes n)

  -- a ready decoder uses the byte that it is offered
  uses_one : (b : ℕ) (s : Stand S) → s.decoder.closed ≡ 0 → s.decoder.setting.room ≤ length s.buffer → used (next s.decoder (b ∷ []) s.buffer).answer ≡ 1
  uses_one b s e l =
      let low = uses_a_byte s.decoder b [] s.buffer e l in
      let u : used (next s.decoder (b ∷ []) s.buffer).answer ≤ 0 + length (b ∷ []) =
      rw (next_runs s.decoder (b ∷ []) s.buffer e l) (run_uses (b ∷ []) s.decoder s.buffer 0).most
      in
      omega (arith, low, u)

  byte_used : (b : ℕ) (s : Stand S) → s.decoder.closed ≡ 0 → s.decoder.setting.room ≤ length s.buffer → (call t (b ∷ []) s).unread ≡ []
  unfolding call
  byte_used b s e l = ap (λ (n : ℕ). drop n (b ∷ [])) (uses_one b s e l)

  -- a call over more than a byte answers at its first byte, or goes on
  module _ (b : ℕ) (bytes : List ℕ) (s : Stand S) (open_still : s.decoder.closed ≡ 0) (long : s.decoder.setting.room ≤ length s.buffer) where
    abbrev o : Outcome
    o = next s.decoder (b ∷ []) s.buffer

    call_stops : (o' : Outcome) → o ≡ o' → ((m : ℕ) → o'.answer ≢ more m) → call t (b ∷ bytes) s ≡ leaving bytes (call t (b ∷ []) s)
    call_stops o' e n =
        let q : used o'.answer ≡ 1 = ap (λ (x : Outcome). used x.answer) (sym e) ∙ uses_one b s open_still long in
        call_is (b ∷ bytes) s o' (feed_answered s.decoder (b ∷ []) bytes s.buffer (λ m z. n m (ap (λ (x : Outcome). x.answer) (sym e) ∙ z)) ∙ e)
        ∙ ap (λ (k : ℕ). leaving (drop k (b ∷ bytes)) (answered t o'.answer o' s.seen)) q
        ∙ ap (λ (f : Fed S). leaving bytes f) (sym (call_is (b ∷ []) s o' e))

    call_goes : (o' : Outcome) → o ≡ o' → (m : ℕ) → o'.answer ≡ more m → (call t (b ∷ bytes) s ≡ call t bytes (call t (b ∷ []) s).stand) × ((call t (b ∷ []) s).messages ≡ [])
    call_goes o' e m h =
        let z : o.answer ≡ more m = ap (λ (x : Outcome). x.answer) e ∙ h in
        let one : o.answer ≡ more 1 = z ∙ ap more (more_uses_all s.decoder (b ∷ []) s.buffer m z) in
        let s' : Stand S = record { decoder = o.deserializer; buffer = o.payload; seen = s.seen } in
        let c : call t (b ∷ []) s ≡ leaving (drop (used o.answer) (b ∷ [])) (silent o s.seen) =
        call_is (b ∷ []) s o refl ∙ ap (λ (l : Listed). leaving (drop (used l) (b ∷ [])) (answered t l o s.seen)) one ∙ ap (λ (l : Listed). leaving (drop (used l) (b ∷ [])) (silent o s.seen)) (sym one)
        in
        let whole : call t (b ∷ bytes) s ≡ called t bytes (next o.deserializer bytes o.payload) s.seen =
        call_is (b ∷ bytes) s _ (feed_append s.decoder (b ∷ []) bytes s.buffer 1 one) ∙ called_shift b bytes (next o.deserializer bytes o.payload) s.seen
        in (
          whole ∙ sym (call_is bytes s' _ refl) ∙ ap (λ (f : Fed S). call t bytes f.stand) (sym c),
          ap (λ (f : Fed S). f.messages) c,
        )

  -- one call, and then what it left unread and what follows it
  pub call_walks : (a b : List ℕ) (s : Stand S) → walk t (a ++ b) s ≡ before (call t a s).messages (walk t ((call t a s).unread ++ b) (call t a s).stand)
  call_walks [] b s = ap (λ (f : Fed S). before f.messages (walk t (f.unread ++ b) f.stand)) (sym (call_nothing s))
  call_walks (x ∷ a) b s = by_use (uses s) (λ s'. call_walks a b s')
    where
      from : (f : Fed S) → call t (x ∷ a) s ≡ f → walk t (x ∷ (a ++ b)) s ≡ before f.messages (walk t (f.unread ++ b) f.stand)
          → walk t (x ∷ (a ++ b)) s ≡ before (call t (x ∷ a) s).messages (walk t ((call t (x ∷ a) s).unread ++ b) (call t (x ∷ a) s).stand)
      from f e h = h ∙ ap (λ (f : Fed S). before f.messages (walk t (f.unread ++ b) f.stand)) (sym e)

      by_answer : s.decoder.closed ≡ 0 → s.decoder.setting.room ≤ length s.buffer
          → ((s' : Stand S) → walk t (a ++ b) s' ≡ before (call t a s').messages (walk t ((call t a s').unread ++ b) (call t a s').stand))
          → (l : Listed) → (next s.decoder (x ∷ []) s.buffer).answer ≡ l
          → walk t (x ∷ (a ++ b)) s ≡ before (call t (x ∷ a) s).messages (walk t ((call t (x ∷ a) s).unread ++ b) (call t (x ∷ a) s).stand)
      by_answer e l later (message type stream time long n) h =
          from _ (call_stops x a s e l _ refl (λ m z. message_not_more (sym h ∙ z))) (walk_byte x (a ++ b) s _ refl (byte_used x s e l))
      by_answer e l later (refused number n) h =
          from _ (call_stops x a s e l _ refl (λ m z. refused_not_more (sym h ∙ z))) (walk_byte x (a ++ b) s _ refl (byte_used x s e l))
      by_answer e l later (more m) h =
          let g = call_goes x a s e l _ refl m h in
          from _ g.0
          (walk_byte x (a ++ b) s _ refl (byte_used x s e l)
          ∙ ap (λ (ms : List Message). before ms (walk t (a ++ b) (call t (x ∷ []) s).stand)) g.1
          ∙ later (call t (x ∷ []) s).stand)

      by_use : Uses s
          → ((s' : Stand S) → walk t (a ++ b) s' ≡ before (call t a s').messages (walk t ((call t a s').unread ++ b) (call t a s').stand))
          → walk t (x ∷ (a ++ b)) s ≡ before (call t (x ∷ a) s).messages (walk t ((call t (x ∷ a) s).unread ++ b) (call t (x ∷ a) s).stand)
      by_use (ready e l) later = by_answer e l later (next s.decoder (x ∷ []) s.buffer).answer refl
      by_use (closed n) later = from _ (call_closed (x ∷ a) s n) refl
      by_use (short e l) later = from _ (call_short (x ∷ a) s l) refl

  pub before_twice : (xs ys : List Message) (f : Fed S) → before xs (before ys f) ≡ before (xs ++ ys) f
  before_twice xs ys f = ap (λ (ms : List Message). fed ms f.stand f.unread) (sym (append_assoc xs ys f.messages))

  -- and one walk after another
  pub walk_append : (a b : List ℕ) (s : Stand S) → walk t (a ++ b) s ≡ before (walk t a s).messages (walk t ((walk t a s).unread ++ b) (walk t a s).stand)
  unfolding walk
  walk_append [] b s = refl
  walk_append (x ∷ a) b s = by_use (uses s) (walk_append a b (call t (x ∷ []) s).stand)
    where
      from : (f : Fed S) → walk t (x ∷ a) s ≡ f → walk t (x ∷ (a ++ b)) s ≡ before f.messages (walk t (f.unread ++ b) f.stand)
          → walk t (x ∷ (a ++ b)) s ≡ before (walk t (x ∷ a) s).messages (walk t ((walk t (x ∷ a) s).unread ++ b) (walk t (x ∷ a) s).stand)
      from f e h = h ∙ ap (λ (f : Fed S). before f.messages (walk t (f.unread ++ b) f.stand)) (sym e)

      on : Fed S → Fed S
      on f = before f.messages (walk t (f.unread ++ b) f.stand)

      by_use : Uses s → walk t (a ++ b) (call t (x ∷ []) s).stand ≡ on (walk t a (call t (x ∷ []) s).stand)
          → walk t (x ∷ (a ++ b)) s ≡ on (walk t (x ∷ a) s)
      by_use (ready e l) later =
          from (before (call t (x ∷ []) s).messages (walk t a (call t (x ∷ []) s).stand)) (walk_byte x a s _ refl (byte_used x s e l))
          (walk_byte x (a ++ b) s _ refl (byte_used x s e l)
          ∙ ap (λ (f : Fed S). before (call t (x ∷ []) s).messages f) later
          ∙ before_twice (call t (x ∷ []) s).messages (walk t a (call t (x ∷ []) s).stand).messages _)
      by_use (closed n) later = from (fed [] s (x ∷ a)) (walk_stuck x a s (call_closed (x ∷ []) s n)) refl
      by_use (short e l) later = from (fed [] s (x ∷ a)) (walk_stuck x a s (call_short (x ∷ []) s l)) refl

  -- where no call can use more, a walk leaves all unread
  pub walk_closed : (bytes : List ℕ) (s : Stand S) → s.decoder.closed ≢ 0 → walk t bytes s ≡ fed [] s bytes
  unfolding walk
  walk_closed [] s n = refl
  walk_closed (x ∷ bytes) s n = walk_stuck x bytes s (call_closed (x ∷ []) s n)

  pub walk_short : (bytes : List ℕ) (s : Stand S) → length s.buffer < s.decoder.setting.room → walk t bytes s ≡ fed [] s bytes
  unfolding walk
  walk_short [] s l = refl
  walk_short (x ∷ bytes) s l = walk_stuck x bytes s (call_short (x ∷ []) s l)

  -- a call of a ready decoder uses a byte at least
  pub call_uses : (x : ℕ) (piece : List ℕ) (s : Stand S) → s.decoder.closed ≡ 0 → s.decoder.setting.room ≤ length s.buffer → length (call t (x ∷ piece) s).unread ≤ length piece
  unfolding call
  call_uses x piece s e l =
      let u = uses_a_byte s.decoder x piece s.buffer e l in
      rw (length-drop (used (next s.decoder (x ∷ piece) s.buffer).answer) (x ∷ piece)) (omega (arith, u))
