-- What holds of every decoder that calls can make, as each of its bytes keeps it: a sound table, and a message that fits, so the guard never answers.
use Rattle.std.proofs.Common.{◌≡◌, ℕ, ◌+◌, ◌<◌, Bool, true, false, cond, not, ◌||◌, eqb, ltb, ◌≢◌, List, [], ◌∷◌, length, refl, ap, arith}
use borrow.Author.Tests.{eqb-false}
use Rattle.fields.specs.Cases.{◌when◌, first}
use Rattle.decoding.specs.Decoder.{Decoder}
use Rattle.byte_machine.specs.Reader.{Event, Go, Chunk, Message, Refuse, Reader}
use Rattle.decoding.specs.Answer.{refused}
use Rattle.decoding.specs.Calls.{Made, after_call, after_size, by_new}
use Rattle.decoding.specs.Call.{Outcome, after, closes, end, is_refusal, next, outcome, run, step_of, writes}
use Rattle.byte_machine.specs.Rows.{put_at}
use Rattle.byte_machine.proofs.RowLaws.{distinct_empty, long_empty}
use Rattle.decoding.specs.Told.{between, fresh, made, max_room, outcome as told_outcome, refused as no_size, sized, taken, told}
use Rattle.chunk_header.specs.Limits.{max_size}
use Rattle.decoding.proofs.Sound.{Sound, step_sound}
use Rattle.fields.proofs.Tests.{never}
use Rattle.decoding.proofs.Fitting.{Fits, fitting_fits, length_of, quiet_fits, step_fits}

-- what holds of every decoder that calls can make
pub record Reached (d : Decoder) : Type 0 where
  pub sound : Sound d.rows d.reader
  pub some : 0 < d.setting.size
  pub fits : Fits d.setting.room (length_of d.rows d.reader.message.id) d.reader
  pub unguarded : d.closed ≢ 255

-- a refusal that is not the guard's closes with another number
closes_unguarded : (e : Event) (n : ℕ) → e ≢ Refuse 255 → n ≢ 255 → closes e n ≢ 255
closes_unguarded Go n h k = k
closes_unguarded Chunk n h k = k
closes_unguarded Message n h k = k
closes_unguarded (Refuse j) n h k = λ q. h (ap Refuse q)

-- it is kept by every byte
pub step_reached : (d : Decoder) (b : ℕ) → Reached d → Reached (after d (step_of d b))
unfolding after
step_reached d b k =
    let f = step_fits d b k.some k.sound k.fits in
    let e = by_event (is_refusal (step_of d b).event) in
    record {
      sound = e.0;
      some = k.some;
      fits = e.1;
      unguarded = closes_unguarded (step_of d b).event d.closed f.guard k.unguarded;
    }
  where
    rows_after : Bool → List ℕ
    rows_after t = cond t d.rows (put_at d.rows (step_of d b).place (step_of d b).reader.chunk.header)

    reader_after : Bool → Reader
    reader_after t = cond t d.reader (step_of d b).reader

    by_event : (t : Bool) → Sound (rows_after t) (reader_after t) × Fits d.setting.room (length_of (rows_after t) (reader_after t).message.id) (reader_after t)
    by_event true = (k.sound, k.fits)
    by_event false =
        let s = step_sound d b k.sound in
        (s, fitting_fits d.setting.room d.rows d.reader.message.id (step_of d b) k.sound.long s (step_fits d b k.some k.sound k.fits))

end_reached : (e : Event) (d : Decoder) (payload : List ℕ) (n : ℕ) (o : Outcome) → Reached d → Reached o.deserializer
    → Reached (end e d payload n o).deserializer
end_reached Go d payload n o p q = q
end_reached Chunk d payload n o p q = q
end_reached Message d payload n o p q = p
end_reached (Refuse k) d payload n o p q = p

-- by a run
pub run_reached : (a : List ℕ) (d : Decoder) (payload : List ℕ) (n : ℕ) → Reached d → Reached (run a d payload n).deserializer
unfolding run
run_reached [] d payload n s = s
run_reached (x ∷ a) d payload n s =
    let d' = after d (step_of d x) in
    let k = step_reached d x s in
    end_reached (step_of d x).event d' (writes d payload x) (n + 1) _ k (run_reached a d' (writes d payload x) (n + 1) k)

-- by a call
pub next_reached : (d : Decoder) (input payload : List ℕ) → Reached d → Reached (next d input payload).deserializer
unfolding next
next_reached d input payload s = by_cases (eqb d.closed 0) (ltb (length payload) d.setting.room)
  where
    by_cases : (t u : Bool)
        → Reached (cond (not t) (outcome (refused d.closed 0) d payload) (cond u (outcome (refused 7 0) d payload) (run input d payload 0))).deserializer
    by_cases true true = s
    by_cases true false = run_reached input d payload 0 s
    by_cases false u = s

-- by a chunk size that is told
pub told_reached : (d : Decoder) (size : ℕ) → Reached d → Reached (told d size).deserializer
unfolding told
told_reached d size s = by_cases (eqb d.closed 0) (eqb size 0) (ltb max_size size) (between d.reader) refl
  where
    by_cases : (t u v w : Bool) → eqb size 0 ≡ u
        → Reached
        (first (told_outcome (no_size d.closed) d when not t ∷ told_outcome (no_size 3) d when u ∷ told_outcome (no_size 4) d when v
        ∷ told_outcome (no_size 8) d when not w
        ∷ []) (told_outcome taken (sized d size))).deserializer
    by_cases false u v w e = s
    by_cases true true v w e = s
    by_cases true false true w e = s
    by_cases true false false false e = s
    by_cases true false false true e = let n = eqb-false size 0 e in record { sound = s.sound; some = omega arith; fits = s.fits; unguarded = s.unguarded }

-- and it holds of a decoder that is made
fresh_reached : (room closed : ℕ) → closed ≢ 255 → Reached (fresh room closed)
fresh_reached room closed h = record {
  sound = record {
    long = long_empty;
    distinct = distinct_empty;
    begun = λ n. absurd (n refl);
    owns = λ e. never e;
  };
  some = omega arith;
  fits = quiet_fits room _ _ refl refl;
  unguarded = h;
}

pub made_reached : (room : ℕ) → Reached (made room).deserializer
unfolding made
made_reached room = by_cases (eqb room 0 || ltb max_room room)
  where
    by_cases : (t : Bool) → Reached (cond t (told_outcome (no_size 6) (fresh room 6)) (told_outcome taken (fresh room 0))).deserializer
    by_cases true = fresh_reached room 6 (λ e. omega arith)
    by_cases false = fresh_reached room 0 (λ e. omega arith)

-- a reader in a payload lacks a byte, and its chunk ends within the room, so the guard against any other is never answered by a byte
pub step_unguarded : (d : Decoder) (b : ℕ) → Reached d → (step_of d b).event ≢ Refuse 255
step_unguarded d b k = (step_fits d b k.some k.sound k.fits).guard

end_unguarded : (e : Event) (d : Decoder) (payload : List ℕ) (n m : ℕ) (o : Outcome) → e ≢ Refuse 255 → o.answer ≢ refused 255 m
    → (end e d payload n o).answer ≢ refused 255 m
end_unguarded Go d payload n m o h k = k
end_unguarded Chunk d payload n m o h k = k
end_unguarded Message d payload n m o h k = λ q. let z : ◌≡◌ {A = ℕ} 0 1 = cc in omega arith
end_unguarded (Refuse j) d payload n m o h k = λ q. h (cc)

run_unguarded : (a : List ℕ) (d : Decoder) (payload : List ℕ) (n m : ℕ) → Reached d → (run a d payload n).answer ≢ refused 255 m
unfolding run
run_unguarded [] d payload n m s = λ q. let z : ◌≡◌ {A = ℕ} 0 1 = cc in omega arith
run_unguarded (x ∷ a) d payload n m s =
    let d' = after d (step_of d x) in
    end_unguarded (step_of d x).event d' (writes d payload x) (n + 1) m _ (step_unguarded d x s)
    (run_unguarded a d' (writes d payload x) (n + 1) m (step_reached d x s))

-- nor by a call
pub next_unguarded : (d : Decoder) (input payload : List ℕ) (m : ℕ) → Reached d → (next d input payload).answer ≢ refused 255 m
unfolding next
next_unguarded d input payload m s = by_cases (eqb d.closed 0) (ltb (length payload) d.setting.room)
  where
    by_cases : (t u : Bool)
        → (cond (not t) (outcome (refused d.closed 0) d payload) (cond u (outcome (refused 7 0) d payload) (run input d payload 0))).answer
        ≢ refused 255 m
    by_cases true true = λ q. let e : ◌≡◌ {A = ℕ} 7 255 = cc in omega arith
    by_cases true false = run_unguarded input d payload 0 m s
    by_cases false u = λ q. s.unguarded (cc)

-- so it holds of every decoder that calls can make
pub made_reaches : {d : Decoder} → Made d → Reached d
made_reaches (by_new room) = made_reached room
made_reaches (after_call {d} m input buffer) = next_reached d input buffer (made_reaches m)
made_reaches (after_size {d} m size) = told_reached d size (made_reaches m)
