-- A room and a size, judged as the definition judges them: the first line that holds decides.
use Rattle.std.proofs.Common.{sym, eqb, ℕ, zero, suc, ◌≤◌, ◌<◌, ◌≡◌, refl, ◌≢◌, true, false, List, [], arith, get_or, eq-eqb, ne_eqb, lt-ltb, le-ltb}
use Rattle.chunk_header.specs.Limits.{max_size}
use Rattle.byte_machine.specs.Reader.{at_start}
use Rattle.decoding.specs.Told.{Outcome, Size, between, outcome, refused, sized, taken, told}
use Rattle.decoding.specs.Decoder.{Decoder}
use Rattle.held.specs.Numbers.{again, decode, encode}
use Rattle.held.specs.Stages.{stage_from, stage_in}
use Rattle.held.proofs.Again.{decode_encode, again_means, from_small}
use Rattle.held.proofs.Stages.{is_payload_lem}
use Rattle.in_place.specs.Answer.{LentSize, LentTold, Stands}

-- before the first byte of a chunk only at stage 0
pub start_from : (s n l : ℕ) → at_start (stage_from s n l) ≡ eqb s 0
unfolding stage_in
start_from zero n l = refl
start_from (suc zero) n l = refl
start_from (suc (suc zero)) n l = refl
start_from (suc (suc (suc zero))) n l = refl
start_from (suc (suc (suc (suc zero)))) n l = refl
start_from (suc (suc (suc (suc (suc zero))))) n l = refl
start_from (suc (suc (suc (suc (suc (suc zero)))))) n l = refl
start_from (suc (suc (suc (suc (suc (suc (suc zero))))))) n l = refl
start_from (suc (suc (suc (suc (suc (suc (suc (suc s)))))))) n l = rw (is_payload_lem (suc (suc (suc (suc (suc (suc (suc (suc s)))))))) n l (omega arith)) (sym (ne_eqb (suc (suc (suc (suc (suc (suc (suc (suc s)))))))) 0 (omega arith)))

pub made_lent : (o : Outcome) (answer : Size) (d : Decoder) (held rows : List ℕ) → o ≡ outcome answer d → Stands held rows d → LentSize answer held rows o
made_lent o answer d held rows e s = rw e (record { answer_is = refl; stands = s })

-- a size, to a decoder of any table
module _ (held : List ℕ) (size : ℕ) (held' : List ℕ) where
  abbrev Says : (rows : List ℕ) → Outcome → Type 0
  Says rows o = told (decode held rows) size ≡ o

  told_lent : (answer : Size) (after : List ℕ → Decoder) → ((rows : List ℕ) → Says rows (outcome answer (after rows))) → ((rows : List ℕ) → Stands held' rows (after rows))
      → LentTold answer held size held'
  told_lent answer after e s = record { beside = λ rows. made_lent (told (decode held rows) size) answer (after rows) held' rows (e rows) (s rows) }

  -- refused, and so the same decoder
  pub told_refused : (number : ℕ) (answer : Size) → answer ≡ refused number → held' ≡ again held
      → ((rows : List ℕ) → Says rows (outcome (refused number) (decode held rows))) → LentTold answer held size held'
  told_refused number answer e k says = rw e (told_lent (refused number) (λ rows. decode held rows) says (λ rows. record { numbers = k; table = refl; means = again_means held held' rows k }))

  -- taken
  pub told_taken : held' ≡ encode (sized (decode held []) size) → ((rows : List ℕ) → Says rows (outcome taken (sized (decode held rows) size))) → LentTold taken held size held'
  told_taken k says = told_lent taken (λ rows. sized (decode held rows) size) says
      (λ rows. record { numbers = k; table = refl; means = rw k (decode_encode (sized (decode held rows) size) (from_small (get_or held 3 0) (get_or held 4 0) (get_or held 5 0))) })

-- what is told a decoder, by the first line that holds
module _ (d : Decoder) (size : ℕ) where
  pub says_closed : d.closed ≢ 0 → told d size ≡ outcome (refused d.closed) d
  unfolding told
  says_closed h = rw (ne_eqb d.closed 0 h)

  module _ (o : d.closed ≡ 0) where
    pub says_none : size ≡ 0 → told d size ≡ outcome (refused 3) d
    unfolding told
    says_none h = rw (eq-eqb d.closed 0 o, eq-eqb size 0 h)

    module _ (some : size ≢ 0) where
      pub says_large : max_size < size → told d size ≡ outcome (refused 4) d
      unfolding told
      says_large h = rw (eq-eqb d.closed 0 o, ne_eqb size 0 some, lt-ltb max_size size h)

      module _ (fits : size ≤ max_size) where
        pub says_taken : between d.reader ≡ true → told d size ≡ outcome taken (sized d size)
        unfolding told
        says_taken h = rw (eq-eqb d.closed 0 o, ne_eqb size 0 some, le-ltb max_size size fits, h)

        pub says_inside : between d.reader ≡ false → told d size ≡ outcome (refused 8) d
        unfolding told
        says_inside h = rw (eq-eqb d.closed 0 o, ne_eqb size 0 some, le-ltb max_size size fits, h)
