-- Demand 3 is a line that breaks after its last byte.
use Rattle.std.proofs.Common.{ℕ, ◌+◌, ◌-◌, Bool, cond, List, [], ◌∷◌, ◌++◌, map, ◌≡◌, refl, sym, ap, subst, ◌∙◌, arith, length, length-append, take, take_all, le-leb}
use Rattle.serializer.specs.Remembered.{fresh}
use Rattle.decoding.specs.Told.{between}
use Rattle.round_trip.specs.Breaking.{Breaks, broken_after, whole}
use Rattle.round_trip.specs.Demand3.{Begins, Demand3, HandsOut, Note, Packet, Receiver, bytes, handed, kept, last, log, receiver}
use Rattle.round_trip.proofs.Breaking.{breaking}

module _ (r : Receiver) (packets : List Packet) (n : ℕ) (ns : List ℕ) (same : broken_after n r ≡ r) (all_whole : whole n packets ≡ packets)
    (uncut : take n (bytes packets) ≡ bytes packets) (b : Breaks r packets n ns) where
  abbrev notes_for_all : List Packet → List Note
  notes_for_all ps = map (λ (p : Packet). handed p.message) ps

  unbroken : HandsOut r packets ns
  unbroken = record {
    in_order = subst (λ (ps : List Packet). Begins (log r ns) (notes_for_all ps)) all_whole (subst (λ (x : Receiver). Begins (log x ns) (notes_for_all (whole n packets))) same b.in_order);
    all = λ e. ap (λ (x : Receiver). log x ns) (sym same) ∙ b.all (ap (λ (x : Receiver). (last x ns).unread) same ∙ e) ∙ ap notes_for_all all_whole;
    ends = λ e. (
      ap (λ (x : Receiver). between (last x ns).decoder.reader) (sym same) ∙ b.ends (ap bytes all_whole ∙ sym uncut) (ap (λ (x : Receiver). (last x ns).unread) same ∙ e),
      ap (λ (x : Receiver). (last x ns).decoder.closed) (sym same) ∙ b.still_open,
    );
    uses = λ h. ap (λ (x : Receiver). (last x ns).unread) (sym same) ∙ b.uses (rw uncut h);
  }

-- all of the bytes are all of the packets
whole_all : (ps : List Packet) → whole (length (bytes ps)) ps ≡ ps
whole_all [] = refl
whole_all (p ∷ ps) =
    let l : length (p.bytes ++ bytes ps) ≡ length p.bytes + length (bytes ps) = length-append p.bytes (bytes ps) in
    let e : length (p.bytes ++ bytes ps) - length p.bytes ≡ length (bytes ps) = omega (arith, l) in
    ap (λ (t : Bool). cond t (p ∷ whole (length (p.bytes ++ bytes ps) - length p.bytes) ps) []) (le-leb (length p.bytes) (length (p.bytes ++ bytes ps)) (omega (arith, l)))
    ∙ ap (λ (n : ℕ). p ∷ whole n ps) e
    ∙ ap (λ (l : List Packet). p ∷ l) (whole_all ps)

-- after all of the bytes nothing is lacking
uncut_all : (ps : List Packet) → take (length (bytes ps)) (bytes ps) ≡ bytes ps
uncut_all ps = take_all (length (bytes ps)) (bytes ps) (omega arith)

pub same_receiver : (room : ℕ) (buffer : List ℕ) (ps : List Packet) → broken_after (length (bytes ps)) (receiver room buffer ps) ≡ receiver room buffer ps
same_receiver room buffer ps =
    ap (λ (u : List ℕ). record { decoder = (receiver room buffer ps).decoder; buffer = buffer; unread = u; tells = (receiver room buffer ps).tells }) (uncut_all ps)

pub demand_3 : Demand3
demand_3 xs room buffer schedule r l some most fit long =
    let ps : List Packet = kept fresh xs in
    unbroken (receiver room buffer ps) ps (length (bytes ps)) schedule (same_receiver room buffer ps) (whole_all ps) (uncut_all ps)
    (breaking xs room buffer (length (bytes ps)) schedule r l some most fit long)
