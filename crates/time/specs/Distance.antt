-- The signed distance of two timestamps: "second minus first where that is within 2147483647, else that plus or minus 4294967296
-- so that the later one is positive".
use Rattle.std.specs.Prelude.{ℕ, suc, ◌^◌, cond, ℤ, pos, negsuc, ◌+ℤ◌, ◌-ℤ◌, neg_ℤ, int_lt}
use Rattle.time.specs.Clock.{sum, difference, adjacent}

-- beyond 2147483647 the larger number is the earlier one, so what was positive becomes negative and the other way round
unfoldable pub wrapped : ℤ → ℤ
wrapped plain =
    cond (int_lt (pos adjacent) plain) (plain -ℤ pos (2 ^ 32))
    (cond (int_lt plain (neg_ℤ (pos adjacent))) (plain +ℤ pos (2 ^ 32))
    plain)

-- from the first to the second
abbrev pub distance : (first second : ℕ) → ℤ
distance first second = wrapped (pos second -ℤ pos first)

-- a timestamp, so far on or back
abbrev pub moved : ℕ → ℤ → ℕ
moved from (pos n) = sum from n
moved from (negsuc n) = difference from (suc n)
