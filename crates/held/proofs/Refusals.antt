-- What is refused has a number other than 0.
use Rattle.std.proofs.Common.{◌≡◌, refl, false, eqb}
use Rattle.held.specs.declared.done.ChunkRefusal.{ChunkRefusal}
use Rattle.held.specs.declared.done.ChunkRefusal.TheVariants.{UnknownStream, TooManyStreams, OtherStream, OtherHeader, SmallExtendedDelta, LengthOverRoom, Guard}
use Rattle.held.specs.Done.{refusal_number}

pub is_refused : (e : ChunkRefusal) → eqb (refusal_number e) 0 ≡ false
is_refused UnknownStream = refl
is_refused TooManyStreams = refl
is_refused OtherStream = refl
is_refused OtherHeader = refl
is_refused SmallExtendedDelta = refl
is_refused LengthOverRoom = refl
is_refused Guard = refl
