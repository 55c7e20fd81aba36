-- A field of several bytes is read back: each byte adds a digit, and the last one hands on the number.
use Rattle.std.proofs.Common.{◌≡◌, ℕ, suc, ◌+◌, ◌-◌, ◌*◌, ◌%◌, ◌^◌, ◌<◌, ◌≤◌, false, cond, leb, List, [], ◌∷◌, ◌++◌, length, ◌∙◌, lt_of_lt_of_le, add-zero, pow-suc, arith, lit<}
use native.Mathlib.Nat.{pow-le-pow_right}
use borrow.Author.Tests.{lt-leb}
use Rattle.fields.specs.Endian.{Bytes, gather}
use Rattle.decoding.specs.Decoder.{Decoder}
use Rattle.byte_machine.specs.Reader.{Reader, Stage, Stepped, at, go, in_payload}
use Rattle.decoding.specs.Call.{Outcome, after, run}
use Rattle.byte_machine.specs.Step.{gathered, stepped}
use Rattle.decoding.proofs.Runs.{holding, run_header, then}
use Rattle.byte_machine.specs.Setting.{Setting}
use Rattle.byte_machine.specs.Look.{look}

-- a number of at most three digits, and one digit more
three_digits : (j x : ℕ) → x < 256 ^ j → j ≤ 3 → x % 2 ^ 24 ≡ x
three_digits j x h k =
    let small : x < 256 ^ 3 = lt_of_lt_of_le h (pow-le-pow_right (lit< tt) k) in
    omega arith

digit_more : (j x b : ℕ) → x < 256 ^ j → b < 256 → x * 256 + b < 256 ^ suc j
digit_more j x b h k = rw pow-suc (omega arith)

more_digits : (j k : ℕ) → j + suc k ≤ 3 → suc j + k ≤ 3
more_digits j k h = omega arith

fewer_digits : (j k : ℕ) → j + k ≤ 3 → j ≤ 3
fewer_digits j k h = omega arith

one_later : (n k : ℕ) → n + 1 + 1 + k ≡ n + 1 + suc k
one_later n k = omega arith

-- a run has come to a byte that does a step of the reader, at a stage that does not matter; until that byte the decoder held some reader
pub record Reaches (run' : Outcome) (d : Decoder) (step : Reader → Stepped) (r : Reader) (payload : List ℕ) (n : ℕ) (rest : List ℕ) : Type 0 where
  pub stage : Stage
  pub held : Reader
  pub reached : run' ≡ then (holding d held) (step (at r stage)) payload n rest

-- a field at some stage: what its last byte does with the number, and what any byte before it does
module _ (mk : ℕ → ℕ → Stage) (done : Setting → Reader → ℕ → Stepped) (header : (x k : ℕ) → in_payload (mk x k) ≡ false)
    (steps : (x k : ℕ) (setting : Setting) (rows : List ℕ) (r : Reader) (b : ℕ)
    → stepped (mk x k) setting (look rows) r b ≡ cond (leb k 1) (done setting r (gathered x b)) (go (at r (mk (gathered x b) (k - 1))))) (d : Decoder) (r : Reader) (payload rest : List ℕ) where
  -- what the last byte of the field does with its number
  abbrev ends : ℕ → Reader → Stepped
  ends number r' = done d.setting r' number

  last_byte : (b x n : ℕ) → x % 2 ^ 24 ≡ x → run (b ∷ rest) (holding d (at r (mk x 1))) payload n ≡ then (holding d (at r (mk x 1))) (ends (x * 256 + b) (at r (mk x 1))) payload (n + 1) rest
  unfolding after
  last_byte b x n e = run_header b rest (holding d (at r (mk x 1))) payload n (header x 1) ∙ (rw (steps x 1 d.setting d.rows (at r (mk x 1)) b, e))

  byte_before : (b x k n : ℕ) (bs : List ℕ) → x % 2 ^ 24 ≡ x
      → run (b ∷ bs) (holding d (at r (mk x (suc (suc k))))) payload n ≡ run bs (holding d (at r (mk (x * 256 + b) (suc k)))) payload (n + 1)
  unfolding after
  byte_before b x k n bs e =
      let l : suc (suc k) - 1 ≡ suc k = omega arith in
      run_header b bs (holding d (at r (mk x (suc (suc k))))) payload n (header x (suc (suc k)))
      ∙ (rw (steps x (suc (suc k)) d.setting d.rows (at r (mk x (suc (suc k)))) b, lt-leb (suc (suc k)) 1 (omega arith), e, l))

  pub field : (b : ℕ) (bs : List ℕ) (j x n : ℕ) → Bytes (b ∷ bs) → x < 256 ^ j → j + length bs ≤ 3
      → Reaches (run (b ∷ (bs ++ rest)) (holding d (at r (mk x (suc (length bs))))) payload n) d (ends (gather x (b ∷ bs))) r payload (n + 1 + length bs) rest
  unfolding gather
  field b [] j x n h q w = record { stage = mk x 1; held = at r (mk x 1); reached = last_byte b x n (three_digits j x q (fewer_digits j 0 w)) ∙ (rw (add-zero (n + 1))) }
  field b (c ∷ bs) j x n h q w =
      let f = field c bs (suc j) (x * 256 + b) (n + 1) (λ i. h (suc i)) (digit_more j x b q (h 0)) (more_digits j (length bs) w) in
      record {
        stage = f.stage;
        held = f.held;
        reached =
            byte_before b x (length bs) n (c ∷ bs ++ rest) (three_digits j x q (fewer_digits j (suc (length bs)) w))
            ∙ f.reached
            ∙ (rw (one_later n (length bs)));
      }
