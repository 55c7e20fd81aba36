-- A receiver's calls go past what they use: where each is made of an open decoder with a buffer that is long enough, every byte is used in the end.
use Rattle.std.proofs.Common.{ℕ, zero, suc, ◌+◌, ◌-◌, ◌≤◌, ◌<◌, max, List, [], ◌∷◌, ◌≡◌, refl, arith, length, take, drop, length-drop}
use Rattle.decoding.specs.Answer.{Listed, message as found, more, refused as not_read, used}
use Rattle.decoding.specs.Call.{next}
use Rattle.decoding.proofs.Progress.{uses_a_byte}
use Rattle.round_trip.specs.Demand3.{Receiver, after, after_of, last, offered, offers}

-- a call of the decoder runs: it is open, and the buffer is long enough
pub record Ready (r : Receiver) : Type 0 where
  pub closed : r.decoder.closed ≡ 0
  pub room : r.decoder.setting.room ≤ length r.buffer

-- and so after any calls
abbrev pub Always : Receiver → Type 0
Always r = (ns : List ℕ) → Ready (last r ns)

-- each call goes past what it used
pub past_used : (r : Receiver) (n : ℕ) → (after r n).unread ≡ drop (used (offered r n).answer) r.unread
past_used r n = by_answer (offered r n).answer
  where
    by_answer : (l : Listed) → (after_of l (offered r n) r).unread ≡ drop (used l) r.unread
    by_answer (found type stream time length used) = refl
    by_answer (more used) = refl
    by_answer (not_read number used) = refl

-- and where it is offered a byte, that is one at least
fewer : (r : Receiver) (n : ℕ) → Ready r → length (after r (suc n)).unread + 1 ≤ max (length r.unread) 1
fewer r n k = rw (past_used r (suc n), length-drop) (by_unread r.unread refl)
  where
    by_unread : (l : List ℕ) → r.unread ≡ l → length r.unread - used (offered r (suc n)).answer + 1 ≤ max (length r.unread) 1
    by_unread [] e = rw e (omega arith)
    by_unread (x ∷ l) e =
        let u : 0 < used (next r.decoder (x ∷ take n l) r.buffer).answer = uses_a_byte r.decoder x (take n l) r.buffer k.closed k.room in
        rw e (omega (arith, u))

pub uses_all : (ns : List ℕ) (r : Receiver) → Always r → length (last r ns).unread ≤ length r.unread - offers ns
uses_all [] r a = omega arith
uses_all (zero ∷ ns) r a =
    let u = uses_all ns (after r 0) (λ ms. a (0 ∷ ms)) in
    let f : length (after r 0).unread ≤ length r.unread = rw (past_used r 0, length-drop) (omega arith) in
    omega (arith, u, f)
uses_all (suc n ∷ ns) r a =
    let u = uses_all ns (after r (suc n)) (λ ms. a (suc n ∷ ms)) in
    omega (arith, u, fewer r n (a []))
