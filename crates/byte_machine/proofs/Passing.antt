-- What holds where a reader stops at a field, and where it goes past them all, holds of the next field: each is there or passed over.
use Rattle.std.proofs.Common.{◌≡◌, Bool, true, false, cond, eqb, refl}
use Rattle.chunk_header.specs.declared.HeaderField.{HeaderField}
use Rattle.chunk_header.specs.declared.HeaderField.TheVariants.{Timestamp, MessageLength, MessageTypeId, MessageStreamId}
use Rattle.byte_machine.specs.Reader.{Reader, Stepped, at, go}
use Rattle.byte_machine.specs.Header.{extended_next, field_next, lacks, length_next, stage_of, stream_next, timestamp_next, type_next}
use Rattle.byte_machine.specs.Setting.{Setting}

-- a test, with what it tells
pub tested : (P : Stepped → Type 0) (t : Bool) {a b : Stepped} → (t ≡ true → P a) → (t ≡ false → P b) → P (cond t a b)
tested P true p q = p refl
tested P false p q = q refl

-- of two ways, either
pub either : (P : Stepped → Type 0) (t : Bool) {a b : Stepped} → P a → P b → P (cond t a b)
either P t p q = tested P t (λ e. p) (λ e. q)

module _ (P : Stepped → Type 0) (setting : Setting) (r : Reader)
    (stops : (field : HeaderField) → eqb (lacks r field) 0 ≡ false → P (go (at r (stage_of field (lacks r field)))))
    (past : P (extended_next setting r)) where
  at_field : (field : HeaderField) {after : Stepped} → P after → P (field_next r field after)
  at_field field p = tested P (eqb (lacks r field) 0) (λ e. p) (stops field)

  pub at_stream : P (stream_next setting r)
  unfolding stream_next
  at_stream = at_field MessageStreamId past

  pub at_type : P (type_next setting r)
  unfolding type_next
  at_type = at_field MessageTypeId at_stream

  pub at_length : P (length_next setting r)
  unfolding length_next
  at_length = at_field MessageLength at_type

  pub at_timestamp : P (timestamp_next setting r)
  unfolding timestamp_next
  at_timestamp = at_field Timestamp at_length
