-- One byte stored at a place is a run of one; beyond the buffer nothing is stored.
use Rattle.std.proofs.Common.{ℕ, ◌≡◌, sym, ap, ◌∙◌, List, [], ◌∷◌, arith, get_or, drop_of_length-le}
use Rattle.std.proofs.lemmas.List.Edits.{sets}
use Rattle.fields.proofs.Lists.{stored_fits, stored_none}
use Rattle.decoding.proofs.Runs.{byte_at}
use Rattle.one_stroke.proofs.piece.put_piece.Goals as goal

pub returns-then-payload-at : goal.returns-then-payload-at
returns-then-payload-at c = let a = c.args in stored_none a.payload.now a.input.now a.at 1 c.if-input-ne1.false (omega (arith, c.if-payload-at.true))

pub returns : goal.returns
returns c =
    let a = c.args in
    let input = a.input.now in
    let single : input ≡ get_or input 0 0 ∷ [] = byte_at input 0 (omega (arith, c.if-input-ne1.false)) ∙ ap (λ (l : List ℕ). get_or input 0 0 ∷ l) (drop_of_length-le input {i = 1} (omega (arith, c.if-input-ne1.false))) in
    ap (λ (l : List ℕ). sets a.payload.now a.at l) (sym single) ∙ sym (stored_fits a.payload.now input a.at (omega (arith, c.if-input-ne1.false, c.if-payload-at.false)))
