-- A payload in pieces: how many there are, what each step takes off, and how long the chunks of all of them are.
use Rattle.std.proofs.Common.{ℕ, suc, ◌+◌, ◌-◌, ◌*◌, ◌/◌, ◌≤◌, ◌<◌, ◌≡◌, refl, List, [], ◌∷◌, suc-mul, arith, add-one, Bool, true, false, ltb, ltb-true, ltb-false, length, take, drop, length-drop}
use Rattle.std.proofs.Math.Nat.{add-div_right, lt-div-mul-add, div-eq_of_lt}
use Rattle.serializer.specs.Packet.{rounded_up, pieces}

-- one, and one more for each whole chunk size in what lies before the last byte
pub rounded_up_lem : (n size : ℕ) → 0 < n → 0 < size → rounded_up n size ≡ suc ((n - 1) / size)
rounded_up_lem n size p q =
    let e : n + (size - 1) ≡ (n - 1) + size = omega arith in
    rw (e, add-div_right (n - 1) q, add-one)

-- all pieces together hold n bytes
pub rounded_covers : (n size : ℕ) → 0 < n → 0 < size → n ≤ suc ((n - 1) / size) * size
rounded_covers n size p q = rw suc-mul (omega (arith, lt-div-mul-add {a = n - 1} q))

-- what is left after a piece
rest : (n size : ℕ) → 0 < n → 0 < size → (n - 1) / size ≡ rounded_up (n - size) size
rest n size p q = go (ltb n size) refl
  where
    go : (b : Bool) → ltb n size ≡ b → (n - 1) / size ≡ rounded_up (n - size) size
    go true e =
        let less = ltb-true n size e in
        rw (div-eq_of_lt {n = n - 1} {m = size} (omega arith), div-eq_of_lt {n = n - size + (size - 1)} {m = size} (omega arith))
    go false e =
        let more = ltb-false n size e in
        let same : n - size + (size - 1) ≡ n - 1 = omega arith in
        rw same

-- a piece off the front
pub pieces_step : (size : ℕ) (payload : List ℕ) → 0 < size → 0 < length payload → pieces size payload ≡ take size payload ∷ pieces size (drop size payload)
unfolding pieces
pieces_step size payload p q =
    rw (rounded_up_lem (length payload) size q p, rest (length payload) size q p, ← length-drop size payload)

pub pieces_none : (size : ℕ) → 0 < size → pieces size [] ≡ []
unfolding pieces
pieces_none size p = rw (div-eq_of_lt {n = 0 + (size - 1)} {m = size} (omega arith))
