-- A place put behind the first of an array whose others are 0: it stands behind them, and the others are 0 again.
use Rattle.std.proofs.Common.{ℕ, suc, ◌+◌, ◌<◌, ◌≡◌, List, [], ◌∷◌, ◌++◌, ap, sym, ◌∙◌, append_assoc, arith, length, set, replicate, take, length-append, drop-cons}
use Rattle.std.proofs.Math.Seq.{set-append_seam}
use Rattle.std.proofs.lemmas.List.{take_more_set}
use Rattle.fields.specs.Output.{over}
use Rattle.drop_plan.specs.Places.{Filled, first_length}
use Rattle.drop_plan.specs.Queue.{most}

put_behind : (kept : List ℕ) (p : ℕ) → length kept < most → set (over kept (replicate most 0)) (length kept) p ≡ over (kept ++ p ∷ []) (replicate most 0)
put_behind kept p h =
    let zeros : List ℕ = replicate most 0 in
    let room : length kept < length zeros = h in
    let e : length (kept ++ p ∷ []) ≡ suc (length kept) = length-append kept (p ∷ []) ∙ omega arith in
    rw (drop-cons zeros (length kept) 0 room, set-append_seam, e, append_assoc)

module _ (count : ℕ) (array : List ℕ) (p : ℕ) (f : Filled count array) (h : count < length array) where
  pub first_behind : take (count + 1) (set array count p) ≡ take count array ++ p ∷ []
  first_behind = take_more_set array count p h

  pub filled_behind : count < most → Filled (count + 1) (set array count p)
  filled_behind m =
      let zeros : List ℕ = replicate most 0 in
      let kept : List ℕ = take count array in
      let e : length kept ≡ count = first_length count array f in
      let room : length kept < most = omega arith in (
        omega arith,
        ap (λ (l : List ℕ). set l count p) f.1
            ∙ ap (λ (n : ℕ). set (over kept zeros) n p) (sym e)
            ∙ put_behind kept p room
            ∙ ap (λ (l : List ℕ). over l zeros) (sym first_behind),
      )
