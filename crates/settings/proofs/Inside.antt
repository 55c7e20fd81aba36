-- Inside the limits a chunk size and a room fit their four bytes, so only the kind's width says whether a version can hold settings.
use Rattle.std.proofs.Common.{◌≡◌, ℕ, zero, suc, ◌^◌, ◌≤◌, Bool, true, false, ◌&&◌, eqb, ltb, ◌≢◌, sym, refl, ◌∙◌, arith, ltb-false, le-ltb, lt-ltb, ne_eqb, eqb-true}
use borrow.Author.Tests.{eqb-false}
use Rattle.fields.proofs.Tests.{clash, neither}
use Rattle.chunk_header.specs.Limits.{max_length, max_size}
use Rattle.settings.specs.declared.Settings.{Settings}
use Rattle.settings.specs.Limits.{holds, outside}
use Rattle.settings.specs.Record.{kind_width}
use Rattle.settings.proofs.Record.{kind_most}

pub record Inside (s : Settings) : Type 0 where
  pub some_size : s.max_chunk_size ≢ 0
  pub most_size : s.max_chunk_size ≤ max_size
  pub some_room : s.room ≢ 0
  pub most_room : s.room ≤ max_length
  pub most_kind : s.camera_kind ≤ 1

pub inside : (s : Settings) → outside s ≡ false → Inside s
unfolding outside
inside s h =
    let size = neither (eqb s.max_chunk_size 0) _ h in
    let sizes = neither (ltb max_size s.max_chunk_size) _ size.1 in
    let room = neither (eqb s.room 0) _ sizes.1 in
    let rooms = neither (ltb max_length s.room) _ room.1 in
    record {
      some_size = eqb-false s.max_chunk_size 0 size.0;
      most_size = ltb-false max_size s.max_chunk_size sizes.0;
      some_room = eqb-false s.room 0 room.0;
      most_room = ltb-false max_length s.room rooms.0;
      most_kind = ltb-false 1 s.camera_kind rooms.1;
    }

module _ (v : ℕ) (s : Settings) where
  pub holds_none : outside s ≡ true → holds v s ≡ false
  unfolding holds
  holds_none h = rw h

  -- what is left is that the kind fits
  holds_kind : outside s ≡ false → holds v s ≡ (ltb s.camera_kind (256 ^ kind_width v) && true)
  unfolding holds
  holds_kind h =
      let i = inside s h in
      rw (h, lt-ltb s.max_chunk_size (256 ^ 4) (omega arith), lt-ltb s.room (256 ^ 4) (omega arith))

  only_zero : (n : ℕ) → (ltb n 1 && true) ≡ eqb n 0
  only_zero zero = refl
  only_zero (suc n) = rw (le-ltb (suc n) 1 (omega arith), ne_eqb (suc n) 0 (omega arith))

  pub holds_no_kind : outside s ≡ false → kind_width v ≡ 0 → holds v s ≡ eqb s.camera_kind 0
  holds_no_kind h e = rw (holds_kind h, e) (only_zero s.camera_kind)

  pub holds_any_kind : outside s ≡ false → kind_width v ≢ 0 → holds v s ≡ true
  holds_any_kind h n =
      let i = inside s h in
      let most = kind_most v in
      let e : kind_width v ≡ 1 = omega arith in
      rw (holds_kind h, e, lt-ltb s.camera_kind 256 (omega arith))

-- version 1 holds a kind of 0 only
pub no_kind : (s : Settings) → holds 1 s ≡ true → s.camera_kind ≡ 0
no_kind s h = by_outside (outside s) refl
  where
    by_outside : (t : Bool) → outside s ≡ t → s.camera_kind ≡ 0
    by_outside true e = clash (holds_none 1 s e) h
    by_outside false e = eqb-true s.camera_kind 0 (sym (holds_no_kind 1 s e refl) ∙ h)
