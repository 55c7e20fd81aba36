-- Any calls walk over the bytes that came: so where no call can use more, they end where the walk does.
use Rattle.std.proofs.Common.{◌≡◌, ℕ, zero, suc, ◌<◌, ◌≤◌, ◌≢◌, List, [], ◌∷◌, ◌++◌, map, length, take, drop, replicate, sym, refl, ap, ◌∙◌, subst, append_assoc, append-nil, arith, take-append-drop, drop_of_length-le, take_all}
use lib.Seq.{take-nil}
use Rattle.decoding.specs.Answer.{used}
use Rattle.decoding.specs.Call.{Outcome}
use Rattle.decoding.proofs.Entries.{next_by}
use Rattle.stream_meaning.specs.Stream.{Message}
use Rattle.laws.specs.Walk.{Fed, Stand, Teller, before, call, fed, walk}
use Rattle.laws.specs.Cutting.{AnyTwoWays, CanBeFed, Cases, Cutting, Move, Same, Spent, arrive, arrived, closed, feed, nothing_unread, offer, short}
use Rattle.laws.proofs.Walking.{Uses, before_twice, call_closed, call_nothing, call_short, call_uses, call_walks, closed as closes, ready, short as shorter, uses, walk_closed, walk_short}

module _ {S : Type 0} (t : Teller S) where
  -- calls, and then a walk over what they left unread and what follows
  pub feed_walks : (moves : List Move) (s : Stand S) (unread b : List ℕ)
      → walk t ((unread ++ arrived moves) ++ b) s
      ≡ before (feed t moves s unread).messages (walk t ((feed t moves s unread).unread ++ b) (feed t moves s unread).stand)
  feed_walks [] s unread b = ap (λ (l : List ℕ). walk t (l ++ b) s) (append-nil unread)
  feed_walks (arrive bytes ∷ moves) s unread b =
      ap (λ (l : List ℕ). walk t (l ++ b) s) (sym (append_assoc unread bytes (arrived moves))) ∙ feed_walks moves s (unread ++ bytes) b
  feed_walks (offer n ∷ moves) s unread b =
      let c : Fed S = call t (take n unread) s in
      let rest : List ℕ = (drop n unread ++ arrived moves) ++ b in
      let cut : (unread ++ arrived moves) ++ b ≡ take n unread ++ rest =
      ap (λ (l : List ℕ). (l ++ arrived moves) ++ b) (sym (take-append-drop n unread))
      ∙ ap (λ (l : List ℕ). l ++ b) (append_assoc (take n unread) (drop n unread) (arrived moves))
      ∙ append_assoc (take n unread) (drop n unread ++ arrived moves) b
      in
      let join : c.unread ++ rest ≡ ((c.unread ++ drop n unread) ++ arrived moves) ++ b =
      sym (append_assoc c.unread (drop n unread ++ arrived moves) b)
      ∙ ap (λ (l : List ℕ). l ++ b) (sym (append_assoc c.unread (drop n unread) (arrived moves)))
      in
      ap (λ (l : List ℕ). walk t l s) cut
      ∙ call_walks t (take n unread) rest s
      ∙ ap (λ (l : List ℕ). before c.messages (walk t l c.stand)) join
      ∙ ap (λ (f : Fed S). before c.messages f) (feed_walks moves c.stand (c.unread ++ drop n unread) b)
      ∙ before_twice t c.messages (feed t moves c.stand (c.unread ++ drop n unread)).messages _

  -- where no call can use more
  spent_walks : (f : Fed S) → Spent f → walk t f.unread f.stand ≡ fed [] f.stand f.unread
  unfolding walk
  spent_walks f (nothing_unread e) = ap (λ (l : List ℕ). walk t l f.stand) e ∙ ap (λ (l : List ℕ). fed [] f.stand l) (sym e)
  spent_walks f (closed n) = walk_closed t f.unread f.stand n
  spent_walks f (short l) = walk_short t f.unread f.stand l

  spent_ends : (messages : List Message) (f : Fed S) → Spent f → before messages (walk t (f.unread ++ []) f.stand) ≡ fed messages f.stand f.unread
  spent_ends messages f h =
      ap (λ (l : List ℕ). before messages (walk t l f.stand)) (append-nil f.unread)
      ∙ ap (λ (g : Fed S). before messages g) (spent_walks f h)
      ∙ ap (λ (ms : List Message). fed ms f.stand f.unread) (append-nil messages)

  -- so calls that have used all they can are the walk over all that came
  pub feed_is_walk : (moves : List Move) (s : Stand S) (unread : List ℕ) → Spent (feed t moves s unread) → walk t (unread ++ arrived moves) s ≡ feed t moves s unread
  feed_is_walk moves s unread h =
      ap (λ (l : List ℕ). walk t l s) (sym (append-nil (unread ++ arrived moves)))
      ∙ feed_walks moves s unread []
      ∙ spent_ends (feed t moves s unread).messages (feed t moves s unread) h

  -- calls that only offer
  none_arrived : (calls : List ℕ) → arrived (map offer calls) ≡ []
  none_arrived [] = refl
  none_arrived (n ∷ calls) = none_arrived calls

  pub all_unread : (calls bytes : List ℕ) → bytes ++ arrived (map offer calls) ≡ bytes
  all_unread calls bytes = ap (λ (l : List ℕ). bytes ++ l) (none_arrived calls) ∙ append-nil bytes

  same : (f g : Fed S) → f ≡ g → Same f g
  same f g e = record {
    decoder = ap (λ (f : Fed S). f.stand.decoder) e;
    buffer = ap (λ (f : Fed S). f.stand.buffer) e;
    messages = ap (λ (f : Fed S). f.messages) e;
    unread = ap (λ (f : Fed S). f.unread) e;
    seen = ap (λ (f : Fed S). f.stand.seen) e;
  }

pub any_two_ways : (S : Type 0) → AnyTwoWays S
any_two_ways S t s unread one other e h k =
    same t _ _
    (sym (feed_is_walk t one s unread h) ∙ ap (λ (l : List ℕ). walk t (unread ++ l) s) e ∙ feed_is_walk t other s unread k)

pub cutting : (S : Type 0) → Cutting S
cutting S t s a b calls_a calls_b calls_ab h k =
    let fed_a : Fed S = feed t (map offer calls_a) s a in
    let fed_b : Fed S = feed t (map offer calls_b) fed_a.stand (fed_a.unread ++ b) in
    let from_b : walk t (fed_a.unread ++ b) fed_a.stand ≡ fed_b =
    ap (λ (l : List ℕ). walk t l fed_a.stand) (sym (all_unread t calls_b (fed_a.unread ++ b)))
    ∙ feed_is_walk t (map offer calls_b) fed_a.stand (fed_a.unread ++ b) h
    in
    let from_a : walk t (a ++ b) s ≡ before fed_a.messages (walk t (fed_a.unread ++ b) fed_a.stand) =
    ap (λ (l : List ℕ). walk t (l ++ b) s) (sym (all_unread t calls_a a)) ∙ feed_walks t (map offer calls_a) s a b
    in
    let from_ab : walk t (a ++ b) s ≡ feed t (map offer calls_ab) s (a ++ b) =
    ap (λ (l : List ℕ). walk t l s) (sym (all_unread t calls_ab (a ++ b))) ∙ feed_is_walk t (map offer calls_ab) s (a ++ b) k
    in
    same t _ _ (sym (from_a ∙ ap (λ (f : Fed S). before fed_a.messages f) from_b) ∙ from_ab)

-- calls that offer all that is unread use it up
module _ {S : Type 0} (t : Teller S) where
  -- a call that uses nothing leaves its receiver as it was, however often it is made
  pub stays : (s : Stand S) → ((piece : List ℕ) → call t piece s ≡ fed [] s piece) → (moves : List Move) (unread : List ℕ) → feed t moves s unread ≡ fed [] s (unread ++ arrived moves)
  stays s h [] unread = ap (λ (l : List ℕ). fed [] s l) (sym (append-nil unread))
  stays s h (arrive bytes ∷ moves) unread = stays s h moves (unread ++ bytes) ∙ ap (λ (l : List ℕ). fed [] s l) (append_assoc unread bytes (arrived moves))
  stays s h (offer n ∷ moves) unread =
      ap (λ (c : Fed S). before c.messages (feed t moves c.stand (c.unread ++ drop n unread))) (h (take n unread))
      ∙ ap (λ (l : List ℕ). feed t moves s l) (take-append-drop n unread)
      ∙ stays s h moves unread

  spent_before : (messages : List Message) (f : Fed S) → Spent f → Spent (before messages f)
  spent_before messages f (nothing_unread e) = nothing_unread e
  spent_before messages f (closed n) = closed n
  spent_before messages f (short l) = short l

  fewer : (n : ℕ) (x : ℕ) (bytes : List ℕ) (s : Stand S) → s.decoder.closed ≡ 0 → s.decoder.setting.room ≤ length s.buffer → length (x ∷ bytes) ≤ n
      → length ((call t (take n (x ∷ bytes)) s).unread ++ drop n (x ∷ bytes)) ≤ length bytes
  fewer n x bytes s e l h =
      let u = call_uses t x bytes s e l in
      rw (take_all n (x ∷ bytes) h, drop_of_length-le (x ∷ bytes) {i = n} h, append-nil (call t (x ∷ bytes) s).unread) u

  spends : (times n : ℕ) (bytes : List ℕ) (s : Stand S) → length bytes ≤ times → length bytes ≤ n → Spent (feed t (map offer (replicate times n)) s bytes)
  spends zero n [] s h k = nothing_unread refl
  spends zero n (x ∷ bytes) s h k = absurd (omega (arith, h))
  spends (suc times) n bytes s h k = by_use (uses s) bytes h k (λ s' bytes'. spends times n bytes' s')
    where
      later_nothing : ((s' : Stand S) (bytes' : List ℕ) → length bytes' ≤ times → length bytes' ≤ n → Spent (feed t (map offer (replicate times n)) s' bytes'))
          → Spent (feed t (map offer (replicate (suc times) n)) s [])
      later_nothing later =
          let c : call t (take n []) s ≡ fed [] s [] = ap (λ (l : List ℕ). call t l s) (take-nil n) ∙ call_nothing t s in
          let d : (call t (take n []) s).unread ++ drop n [] ≡ [] = ap (λ (f : Fed S). f.unread ++ drop n []) c ∙ drop_of_length-le [] {i = n} (omega arith) in
          spent_before (call t (take n []) s).messages _
          (later (call t (take n []) s).stand ((call t (take n []) s).unread ++ drop n []) (rw d (omega arith)) (rw d (omega arith)))

      by_use : Uses s → (bytes : List ℕ) → length bytes ≤ suc times → length bytes ≤ n
          → ((s' : Stand S) (bytes' : List ℕ) → length bytes' ≤ times → length bytes' ≤ n → Spent (feed t (map offer (replicate times n)) s' bytes'))
          → Spent (feed t (map offer (replicate (suc times) n)) s bytes)
      by_use (ready e l) [] h k later = later_nothing later
      by_use (ready e l) (x ∷ bytes) h k later =
          let c = call t (take n (x ∷ bytes)) s in
          let u = fewer n x bytes s e l k in
          spent_before c.messages _ (later c.stand (c.unread ++ drop n (x ∷ bytes)) (omega (arith, u, h)) (omega (arith, u, k)))
      by_use (closes n') bytes h k later =
          closed (subst (λ (f : Fed S). f.stand.decoder.closed ≢ 0) (sym (stays s (λ piece. call_closed t piece s n') (map offer (replicate (suc times) n)) bytes)) n')
      by_use (shorter e l) bytes h k later =
          short (subst (λ (f : Fed S). length f.stand.buffer < f.stand.decoder.setting.room) (sym (stays s (λ piece. call_short t piece s l) (map offer (replicate (suc times) n)) bytes)) l)

  -- a call that is offered all
  whole_piece : (a : List ℕ) (s : Stand S) → feed t (offer (length a) ∷ []) s a ≡ call t a s
  whole_piece a s =
      ap (λ (l : List ℕ). fed ((call t l s).messages ++ []) (call t l s).stand ((call t l s).unread ++ drop (length a) a)) (take_all (length a) a (omega arith))
      ∙ ap (λ (l : List ℕ). fed ((call t a s).messages ++ []) (call t a s).stand ((call t a s).unread ++ l)) (drop_of_length-le a {i = length a} (omega arith))
      ∙ ap (λ (l : List ℕ). fed ((call t a s).messages ++ []) (call t a s).stand l) (append-nil (call t a s).unread)
      ∙ ap (λ (l : List Message). fed l (call t a s).stand (call t a s).unread) (append-nil (call t a s).messages)

pub can_be_fed : (S : Type 0) → CanBeFed S
can_be_fed S t s bytes = spends t (length bytes) (length bytes) bytes s (omega arith) (omega arith)

pub cases : (S : Type 0) → Cases S
cases S = record {
  one_call = λ t s a b calls_b calls_ab. one_call t s a b calls_b calls_ab;
  empty_piece = λ t s. call_nothing t s;
  closed_decoder = λ t s moves unread n. stays t s (λ piece. call_closed t piece s n) moves unread;
  short_buffer = λ t s moves unread l. stays t s (λ piece. call_short t piece s l) moves unread;
  short_in_between = λ d piece other l.
      next_by d piece other (λ (o : Outcome). (used o.answer ≡ 0) × (o.deserializer ≡ d) × (o.payload ≡ other)) (λ n. (refl, refl, refl)) (λ k. (refl, refl, refl))
      (λ e long. absurd (omega (arith, l, long)));
}
  where
    -- a call over a whole piece is a feeding
    one_call : (t : Teller S) (s : Stand S) (a b : List ℕ) (calls_b calls_ab : List ℕ)
        → Spent (feed t (map offer calls_b) (call t a s).stand ((call t a s).unread ++ b)) → Spent (feed t (map offer calls_ab) s (a ++ b))
        → Same (before (call t a s).messages (feed t (map offer calls_b) (call t a s).stand ((call t a s).unread ++ b))) (feed t (map offer calls_ab) s (a ++ b))
    one_call t s a b calls_b calls_ab =
        subst (λ (f : Fed S). Spent (feed t (map offer calls_b) f.stand (f.unread ++ b)) → Spent (feed t (map offer calls_ab) s (a ++ b))
        → Same (before f.messages (feed t (map offer calls_b) f.stand (f.unread ++ b))) (feed t (map offer calls_ab) s (a ++ b)))
        (whole_piece t a s)
        (cutting S t s a b (length a ∷ []) calls_b calls_ab)
