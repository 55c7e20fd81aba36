-- The three ways a body of two bytes or more is answered.
use Rattle.std.proofs.Common.{◌≡◌, ℕ, ◌%◌, ◌^◌, ◌<◌, ◌≤◌, true, false, List, [], ◌∷◌, length, take, drop, sym, ◌∙◌, arith, drop-drop, le-ltb, lt-ltb}
use Rattle.fields.specs.Endian.{number, Bytes}
use Rattle.fields.proofs.Lists.{part_fits}
use Rattle.user_control.specs.Answer.{event, refused}
use Rattle.user_control.specs.Reading.{code_in, numbers_in, known, count, body_length, reading}

module _ (bytes : List ℕ) (two : 2 ≤ length bytes) where
  pub reads_event : (k : ℕ) → code_in bytes ≡ k → known k ≡ true → body_length k ≤ length bytes
      → reading bytes ≡ event k (numbers_in (count k) (drop 2 bytes))
  unfolding reading
  reads_event k e h enough = simp (e, h, le-ltb (length bytes) 2 two, le-ltb (length bytes) (body_length k) enough)

  pub reads_unknown : known (code_in bytes) ≡ false → reading bytes ≡ refused 16
  unfolding reading
  reads_unknown h = simp (h, le-ltb (length bytes) 2 two)

  pub reads_short : known (code_in bytes) ≡ true → length bytes < body_length (code_in bytes) → reading bytes ≡ refused 15
  unfolding reading
  reads_short k h = simp (le-ltb (length bytes) 2 two, k, lt-ltb (length bytes) (body_length (code_in bytes)) h)

-- the same of the numbers as they are read, modulo 2 ^ 32
module _ (bytes : List ℕ) (B : Bytes bytes) (two : 2 ≤ length bytes) where
  pub code_read : code_in bytes % 2 ^ 32 ≡ code_in bytes
  code_read = part_fits bytes B 0 2 (omega arith)

  pub reads_one : (k n : ℕ) → code_in bytes % 2 ^ 32 ≡ k → known k ≡ true → count k ≡ 1 → body_length k ≤ length bytes
      → n ≡ number (take 4 (drop 2 bytes)) % 2 ^ 32 → event k (n ∷ []) ≡ reading bytes
  reads_one k n e h one enough f =
      let v : n ≡ number (take 4 (drop 2 bytes)) = f ∙ part_fits bytes B 2 4 (omega arith) in
      sym (reads_event bytes two k (sym code_read ∙ e) h enough ∙ rw (one, v))

  pub reads_two : (k m n : ℕ) → code_in bytes % 2 ^ 32 ≡ k → known k ≡ true → count k ≡ 2 → body_length k ≤ length bytes
      → m ≡ number (take 4 (drop 2 bytes)) % 2 ^ 32 → n ≡ number (take 4 (drop 6 bytes)) % 2 ^ 32 → event k (m ∷ n ∷ []) ≡ reading bytes
  reads_two k m n e h pair enough f g =
      let u : m ≡ number (take 4 (drop 2 bytes)) = f ∙ part_fits bytes B 2 4 (omega arith) in
      let v : n ≡ number (take 4 (drop 6 bytes)) = g ∙ part_fits bytes B 6 4 (omega arith) in
      sym (reads_event bytes two k (sym code_read ∙ e) h enough ∙ rw (pair, u, v, drop-drop 4 2 bytes))
