-- The bytes of a basic header are read back in each of its three forms: an id is said by its last byte, and not before.
use Rattle.std.proofs.Common.{◌≡◌, ℕ, ◌+◌, ◌-◌, ◌*◌, ◌/◌, ◌%◌, ◌<◌, ◌≤◌, List, [], ◌∷◌, ◌++◌, length, Some, refl, ◌∙◌, arith}
use Rattle.fields.specs.Endian.{little_endian}
use Rattle.chunk_header.specs.declared.ChunkHeaderFormat.{ChunkHeaderFormat}
use Rattle.chunk_header.specs.Basic.{csid}
use Rattle.chunk_header.specs.Layout.{Form, one, two, three, basic_bytes, FormFits}
use Rattle.chunk_header.specs.Table.{type_of}
use Rattle.chunk_header.proofs.Table.{format_back}
use Rattle.chunk_header.proofs.Basic.{csid_one, csid_one_short, csid_small, csid_zero, csid_zero_short}
use Rattle.decoding.specs.Decoder.{Decoder}
use Rattle.byte_machine.specs.Reader.{Reader, Csid, CsidSecond, CsidThird, at}
use Rattle.decoding.specs.Call.{after, run}
use Rattle.byte_machine.specs.Step.{named}
use Rattle.decoding.proofs.Fields.{Reaches}
use Rattle.decoding.proofs.Runs.{holding, run_header}
use Rattle.byte_machine.specs.Look.{look}

low_bits : (t low : ℕ) → low < 64 → (64 * t + low) % 64 ≡ low
low_bits t low h = omega arith

module _ (d : Decoder) (r : Reader) (f : ChunkHeaderFormat) (payload : List ℕ) (n : ℕ) (rest : List ℕ) where
  abbrev BasicRead : Form → ℕ → Type 0
  BasicRead form id =
      Reaches (run (basic_bytes form (type_of f) id ++ rest) (holding d (at r Csid)) payload n) d
      (λ r'. named d.setting (look d.rows id) r' f id) r payload (n + length (basic_bytes form (type_of f) id)) rest

  one_byte : (id : ℕ) → 2 ≤ id → id ≤ 63 → BasicRead one id
  unfolding after
  one_byte id p q =
      let b = 64 * type_of f + id in
      let l : b % 64 ≡ id = low_bits (type_of f) id (omega arith) in
      let c : csid (b ∷ []) ≡ Some (b % 64) = csid_small (b ∷ []) (omega arith) (λ e. absurd (omega arith)) (λ e. absurd (omega arith)) in
      record { stage = Csid; held = at r Csid; reached = run_header b rest (holding d (at r Csid)) payload n refl ∙ (rw (c, l, format_back f id (omega arith))) }

  two_bytes : (id : ℕ) → 64 ≤ id → id ≤ 319 → BasicRead two id
  unfolding after
  two_bytes id p q =
      let a = 64 * type_of f + 0 in
      let b = id - 64 in
      let l : a % 64 ≡ 0 = low_bits (type_of f) 0 (omega arith) in
      let k : b + 64 ≡ id = omega arith in
      let m : n + 1 + 1 ≡ n + 2 = omega arith in
      record {
        stage = CsidSecond a;
        held = at r (CsidSecond a);
        reached =
            run_header a (b ∷ rest) (holding d (at r Csid)) payload n refl
            ∙ (rw (csid_zero_short (a ∷ []) l (omega arith)))
            ∙ run_header b rest (holding d (at r (CsidSecond a))) payload (n + 1) refl
            ∙ (rw (csid_zero (a ∷ b ∷ []) l (omega arith), k, format_back f 0 (omega arith), m));
      }

  three_bytes : (id : ℕ) → 64 ≤ id → id ≤ 65599 → BasicRead three id
  unfolding after little_endian
  three_bytes id p q =
      let a = 64 * type_of f + 1 in
      let b = (id - 64) % 256 in
      let c = (id - 64) / 256 % 256 in
      let l : a % 64 ≡ 1 = low_bits (type_of f) 1 (omega arith) in
      let k : 256 * c + b + 64 ≡ id = omega arith in
      let m : n + 1 + 1 + 1 ≡ n + 3 = omega arith in
      record {
        stage = CsidThird a b;
        held = at r (CsidThird a b);
        reached =
            run_header a (b ∷ c ∷ rest) (holding d (at r Csid)) payload n refl
            ∙ (rw (csid_one_short (a ∷ []) l (omega arith)))
            ∙ run_header b (c ∷ rest) (holding d (at r (CsidSecond a))) payload (n + 1) refl
            ∙ (rw (csid_one_short (a ∷ b ∷ []) l (omega arith)))
            ∙ run_header c rest (holding d (at r (CsidThird a b))) payload (n + 1 + 1) refl
            ∙ (rw (csid_one (a ∷ b ∷ c ∷ []) l (omega arith), k, format_back f 1 (omega arith), m));
      }

  pub basic_read : (form : Form) (id : ℕ) → FormFits form id → BasicRead form id
  basic_read one id h = one_byte id h.0 h.1
  basic_read two id h = two_bytes id h.0 h.1
  basic_read three id h = three_bytes id h.0 h.1
