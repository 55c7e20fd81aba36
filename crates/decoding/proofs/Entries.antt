-- What making a decoder, telling it a size and calling it come to: the first of their tests that holds decides.
use Rattle.std.proofs.Common.{◌≡◌, ℕ, ◌<◌, ◌≤◌, true, ◌≢◌, ◌⊎◌, List, length, refl, arith}
use Rattle.chunk_header.specs.Limits.{max_size}
use Rattle.decoding.specs.Decoder.{Decoder}
use Rattle.decoding.specs.Answer.{refused}
use Rattle.decoding.specs.Call.{Outcome, next, outcome, run}
use Rattle.decoding.specs.Told.{Outcome as Told, between, fresh, made, max_room, outcome as telling, refused as no_size, sized, taken, told}
use Rattle.fields.proofs.Tests.{equal, itself, less, not_decides, not_not, one_of, tested}

pub made_by : (room : ℕ) (P : Told → Type 0) → ((room ≡ 0) ⊎ (max_room < room) → P (telling (no_size 6) (fresh room 6)))
    → (¬ ((room ≡ 0) ⊎ (max_room < room)) → P (telling taken (fresh room 0)))
    → P (made room)
unfolding made
made_by room P refuses takes = tested P (one_of (equal room 0) (less max_room room)) refuses takes

pub told_by : (d : Decoder) (size : ℕ) (P : Told → Type 0) → ((k : ℕ) → P (telling (no_size k) d))
    → (d.closed ≡ 0 → between d.reader ≡ true → P (telling taken (sized d size)))
    → P (told d size)
unfolding told
told_by d size P refuses takes =
    tested P (not_decides (equal d.closed 0)) (λ h. refuses d.closed)
    (λ opened. tested P (equal size 0) (λ h. refuses 3)
    (λ n. tested P (less max_size size) (λ h. refuses 4)
    (λ m. tested P (not_decides (itself (between d.reader))) (λ h. refuses 8)
    (λ b. takes (not_not (equal d.closed 0) opened) (not_not (itself (between d.reader)) b)))))

pub next_by : (d : Decoder) (input payload : List ℕ) (P : Outcome → Type 0) → (d.closed ≢ 0 → P (outcome (refused d.closed 0) d payload))
    → (length payload < d.setting.room → P (outcome (refused 7 0) d payload))
    → (d.closed ≡ 0 → d.setting.room ≤ length payload → P (run input d payload 0))
    → P (next d input payload)
unfolding next
next_by d input payload P closed short runs =
    tested P (not_decides (equal d.closed 0)) closed
    (λ opened. tested P (less (length payload) d.setting.room) short (λ long. runs (not_not (equal d.closed 0) opened) (omega (arith, long))))

-- a size that is taken holds from then on and changes nothing else; it comes between messages
refused_not_taken : {A : Type 0} {k : ℕ} → no_size k ≡ taken → A
refused_not_taken e = absurd (let z : ◌≡◌ {A = ℕ} 0 1 = cc in omega arith)

pub record Sized (d : Decoder) (size : ℕ) : Type 0 where
  pub after : (told d size).deserializer ≡ sized d size
  pub between_messages : between d.reader ≡ true

pub taken_sized : (d : Decoder) (size : ℕ) → (told d size).answer ≡ taken → Sized d size
taken_sized d size e =
    let t = told_by d size (λ (o : Told). o.answer ≡ taken → (o.deserializer ≡ sized d size) × (between d.reader ≡ true)) (λ k e. refused_not_taken e) (λ c b e. (refl, b)) e in
    record { after = t.0; between_messages = t.1 }

-- a decoder that is made with a good room is fresh and open
pub made_fresh : (room : ℕ) → (made room).answer ≡ taken → (made room).deserializer ≡ fresh room 0
made_fresh room = made_by room (λ (o : Told). o.answer ≡ taken → o.deserializer ≡ fresh room 0) (λ bad e. refused_not_taken e) (λ good e. refl)
