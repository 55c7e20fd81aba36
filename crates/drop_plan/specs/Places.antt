-- Places in an array of 64: so many of its first, and 0 behind them.
use Rattle.std.specs.Prelude.{ℕ, ◌≤◌, ◌≡◌, List, length, replicate, take, drop}
use Rattle.std.proofs.Common.{ap, sym, arith, length-append, length-drop, length-take}
use Rattle.fields.specs.Output.{over}
use Rattle.drop_plan.specs.Queue.{most}

abbrev pub Filled : (count : ℕ) → (array : List ℕ) → Type 0
Filled count array = (count ≤ most) × (array ≡ over (take count array) (replicate most 0))

module _ (count : ℕ) (array : List ℕ) (f : Filled count array) where
  pub first_length : length (take count array) ≡ count
  first_length =
      let zeros : List ℕ = replicate most 0 in
      let kept : List ℕ = take count array in
      omega (arith, ap length f.1, length-append kept (drop (length kept) zeros), length-drop (length kept) zeros, length-take count array)

  -- the places give the array back
  pub array_back : over (take count array) (replicate most 0) ≡ array
  array_back = sym f.1
