-- The size's four bytes are the body of the message that tells it.
use Rattle.std.proofs.Common.{◌≡◌, ℕ, ◌≢◌, ◌≤◌, ◌/◌, ◌%◌, ◌^◌, ◌∷◌, [], ap, ◌∙◌, arith, ne_eqb, le-ltb}
use Rattle.std.specs.Int.{to_be_bytes, w32}
use Rattle.fields.specs.Endian.{big_endian}
use Rattle.serializer.specs.Serialize.{size_changed}
use Rattle.serializer.proofs.ChunkSerializer.set_max_chunk_size.Goals as goal

be_bytes : (n : ℕ) → to_be_bytes w32 n ≡ big_endian 4 n
unfolding big_endian
be_bytes n =
    let last : n % 256 ≡ n / 256 ^ 0 % 256 = omega arith in
    ap (λ (b : ℕ). n / 256 ^ 3 % 256 ∷ n / 256 ^ 2 % 256 ∷ n / 256 ^ 1 % 256 ∷ b ∷ []) last

pub returns-in-1-to-2147483647 : goal.returns-in-1-to-2147483647
unfolding size_changed
returns-in-1-to-2147483647 c =
    let size = c.args.new_size in
    let some : size ≢ 0 = omega arith in
    let most : size ≤ 2147483647 = omega arith in
    let body : c.to_be_bytes.result ≡ big_endian 4 size = c.to_be_bytes.ensures ∙ be_bytes size in
    simp (ne_eqb _ _ some, le-ltb _ _ most, ← body) c.send-packet.ensures
