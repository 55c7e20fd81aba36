-- What a call uses: at least one byte where it may run, no more than there are, and all of them where it asks for more, since each byte counts one.
use Rattle.std.proofs.Common.{◌≡◌, ℕ, suc, ◌+◌, ◌<◌, ◌≤◌, List, [], ◌∷◌, length, arith}
use Rattle.decoding.specs.Decoder.{Decoder}
use Rattle.byte_machine.specs.Reader.{Event, Go, Chunk, Message, Refuse}
use Rattle.decoding.specs.Answer.{Listed, more, used}
use Rattle.decoding.specs.Call.{Outcome, after, end, next, run, step_of, writes}
use Rattle.decoding.proofs.Cut.{has_run, message_not_more, refused_not_more}
use Rattle.decoding.proofs.Runs.{next_runs}

-- what a run that begins at n uses of so many bytes
pub record Uses (n bytes : ℕ) (answer : Listed) : Type 0 where
  pub least : n ≤ used answer
  pub most : used answer ≤ n + bytes
  pub whole : (m : ℕ) → answer ≡ more m → m ≡ n + bytes

-- after its first byte: one byte at least
end_uses : (e : Event) (d : Decoder) (payload : List ℕ) (n bytes : ℕ) (o : Outcome) → Uses (n + 1) bytes o.answer
    → (n < used (end e d payload (n + 1) o).answer) × Uses n (suc bytes) (end e d payload (n + 1) o).answer
end_uses Go d payload n bytes o u =
    (omega (arith, u.least), record { least = omega (arith, u.least); most = omega (arith, u.most); whole = λ m e. omega (arith, u.whole m e) })
end_uses Chunk d payload n bytes o u =
    (omega (arith, u.least), record { least = omega (arith, u.least); most = omega (arith, u.most); whole = λ m e. omega (arith, u.whole m e) })
end_uses Message d payload n bytes o u = (omega arith, record { least = omega arith; most = omega arith; whole = λ m e. message_not_more e })
end_uses (Refuse k) d payload n bytes o u = (omega arith, record { least = omega arith; most = omega arith; whole = λ m e. refused_not_more e })

pub run_uses : (a : List ℕ) (d : Decoder) (payload : List ℕ) (n : ℕ) → Uses n (length a) (run a d payload n).answer
unfolding run
run_uses [] d payload n = record { least = omega arith; most = omega arith; whole = λ m e. let q : n ≡ m = cc in omega (arith, q) }
run_uses (x ∷ a) d payload n =
    let s = step_of d x in
    (end_uses s.event (after d s) (writes d payload x) n (length a) (run a (after d s) (writes d payload x) (n + 1))
    (run_uses a (after d s) (writes d payload x) (n + 1))
    ).1

-- an open decoder with a byte to take and a long enough buffer uses one byte at least
pub uses_a_byte : (d : Decoder) (x : ℕ) (a payload : List ℕ) → d.closed ≡ 0 → d.setting.room ≤ length payload → 0 < used (next d (x ∷ a) payload).answer
unfolding run
uses_a_byte d x a payload h k =
    let s = step_of d x in
    rw (next_runs d (x ∷ a) payload h k)
    (end_uses s.event (after d s) (writes d payload x) 0 (length a) (run a (after d s) (writes d payload x) 1)
    (run_uses a (after d s) (writes d payload x) 1)
    ).0

-- a call that asks for more has used its whole input
pub more_uses_all : (d : Decoder) (a payload : List ℕ) (m : ℕ) → (next d a payload).answer ≡ more m → m ≡ length a
more_uses_all d a payload m h =
    let p = has_run d a payload m h in
    let e = next_runs d a payload p.1 p.0 in
    let u : m ≡ 0 + length a = (run_uses a d payload 0).whole m (rw e at h) in
    omega (arith, u)
