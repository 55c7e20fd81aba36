-- A call that is refused leaves a decoder that is closed, or a short buffer, and then every later call does. So where the end is neither, no call was refused.
use Rattle.std.proofs.Common.{◌≡◌, ℕ, ◌<◌, ◌≤◌, ◌≢◌, List, [], ◌∷◌, ◌++◌, length, take, drop, sym, refl, ap, ◌∙◌, subst, arith}
use Rattle.decoding.specs.Answer.{Listed, message, more, refused}
use Rattle.decoding.specs.Call.{Outcome, next, run}
use Rattle.decoding.proofs.Runs.{next_runs}
use Rattle.laws.specs.Cutting.{Move, OpenRefusedNothing, arrive, feed, offer, refusal_of, refusals}
use Rattle.laws.specs.Walk.{Fed, Stand, Teller, answered, call, fed, silent}
use Rattle.laws.proofs.Cutting.{stays}
use Rattle.laws.proofs.Walking.{Uses, call_closed, call_is, call_short, closed, ready, short, uses}
use Rattle.decoding.proofs.Numbered.{run_refused}

-- no call can use more of it
pub data Stuck {S : Type 0} (s : Stand S) : Type 0 where
  closed_now : s.decoder.closed ≢ 0 → Stuck s
  short_now : length s.buffer < s.decoder.setting.room → Stuck s

pub stuck_end : {S : Type 0} (s : Stand S) → Stuck s → s.decoder.closed ≡ 0 → s.decoder.setting.room ≤ length s.buffer → ⊥
stuck_end s (closed_now n) e l = n e
stuck_end s (short_now k) e l = omega (arith, k, l)

module _ {S : Type 0} (t : Teller S) where
  pub stuck_call : (s : Stand S) → Stuck s → (piece : List ℕ) → call t piece s ≡ fed [] s piece
  stuck_call s (closed_now n) piece = call_closed t piece s n
  stuck_call s (short_now l) piece = call_short t piece s l

  pub stuck_stays : (moves : List Move) (s : Stand S) (unread : List ℕ) → Stuck s → (feed t moves s unread).stand ≡ s
  stuck_stays moves s unread k = ap (λ (f : Fed S). f.stand) (stays t s (stuck_call s k) moves unread)

  refused_stuck : (piece : List ℕ) (s : Stand S) (k m : ℕ) → (next s.decoder piece s.buffer).answer ≡ refused k m → Stuck (call t piece s).stand
  refused_stuck piece s k m h = by_use (uses s)
    where
      by_use : Uses s → Stuck (call t piece s).stand
      by_use (closed n) = subst (λ (f : Fed S). Stuck f.stand) (sym (call_closed t piece s n)) (closed_now n)
      by_use (short e l) = subst (λ (f : Fed S). Stuck f.stand) (sym (call_short t piece s l)) (short_now l)
      by_use (ready e l) =
          let o : Outcome = next s.decoder piece s.buffer in
          let r : o ≡ run piece s.decoder s.buffer 0 = next_runs s.decoder piece s.buffer e l in
          let n : o.deserializer.closed ≢ 0 = subst (λ (x : Outcome). x.deserializer.closed ≢ 0) (sym r) (run_refused piece s.decoder s.buffer 0 k m (ap (λ (x : Outcome). x.answer) (sym r) ∙ h)) in
          let c : (call t piece s).stand ≡ (silent o s.seen).stand = ap (λ (f : Fed S). f.stand) (call_is t piece s o refl) ∙ ap (λ (a : Listed). (answered t a o s.seen).stand) h in
          subst (λ (x : Stand S). Stuck x) (sym c) (closed_now n)

  none_refused : (moves : List Move) (s : Stand S) (unread : List ℕ) → (feed t moves s unread).stand.decoder.closed ≡ 0
      → (feed t moves s unread).stand.decoder.setting.room ≤ length (feed t moves s unread).stand.buffer
      → refusals t moves s unread ≡ []
  none_refused [] s unread e l = refl
  none_refused (arrive bytes ∷ moves) s unread e l = none_refused moves s (unread ++ bytes) e l
  none_refused (offer n ∷ moves) s unread e l = by_answer (next s.decoder (take n unread) s.buffer).answer refl (none_refused moves c.stand (c.unread ++ drop n unread) e l)
    where
      c : Fed S
      c = call t (take n unread) s

      by_answer : (a : Listed) → (next s.decoder (take n unread) s.buffer).answer ≡ a → refusals t moves c.stand (c.unread ++ drop n unread) ≡ []
          → refusal_of a ++ refusals t moves c.stand (c.unread ++ drop n unread) ≡ []
      by_answer (more m) h later = later
      by_answer (message type stream time long m) h later = later
      by_answer (refused k m) h later =
          let stuck = refused_stuck (take n unread) s k m h in
          let same : (feed t moves c.stand (c.unread ++ drop n unread)).stand ≡ c.stand = stuck_stays moves c.stand (c.unread ++ drop n unread) stuck in
          absurd (stuck_end c.stand stuck (ap (λ (x : Stand S). x.decoder.closed) (sym same) ∙ e) (subst (λ (x : Stand S). x.decoder.setting.room ≤ length x.buffer) same l))

pub open_refused_nothing : (S : Type 0) → OpenRefusedNothing S
open_refused_nothing S t s unread moves e l = none_refused t moves s unread e l
