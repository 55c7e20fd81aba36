-- The words of specs/ are std's words on lists, by which the chains of src/ are known.
use Rattle.std.proofs.Common.{◌≡◌, ℕ, zero, suc, ◌+◌, Bool, cond, ◌==◌, List, [], ◌∷◌, get_or, refl, ap, ◌∙◌, sym, add-one}
use Rattle.std.specs.List.{filter, list_all, list_any, range_with_len, sum_by}
use Rattle.std.proofs.lemmas.List.Sums.{sum_by-cons}
use Rattle.drop_plan.specs.Check.{among, every}
use Rattle.drop_plan.specs.Plan.{rest, staying}
use Rattle.drop_plan.specs.Queue.{Queue, places_from, size, those, total}
use Rattle.drop_plan.proofs.Steps.{total_those}

pub every_all : (test : ℕ → Bool) (ks : List ℕ) → every test ks ≡ list_all test ks
unfolding every
every_all test [] = refl
every_all test (k ∷ ks) = rw (every_all test ks)

pub among_any : (p : ℕ) (ks : List ℕ) → among p ks ≡ list_any (λ k. k == p) ks
unfolding among
among_any p [] = refl
among_any p (k ∷ ks) = rw (among_any p ks)

pub those_filter : (test : ℕ → Bool) (ks : List ℕ) → those test ks ≡ filter test ks
unfolding those
those_filter test [] = refl
those_filter test (k ∷ ks) = rw (those_filter test ks)

pub total_sum : (lengths ks : List ℕ) → total lengths ks ≡ sum_by (λ p. get_or lengths p 0) ks
unfolding total
total_sum lengths [] = refl
total_sum lengths (k ∷ ks) = ap (λ (n : ℕ). get_or lengths k 0 + n) (total_sum lengths ks) ∙ sym (sum_by-cons (λ p. get_or lengths p 0) k ks)

pub places_range : (p n : ℕ) → places_from p n ≡ range_with_len p n
unfolding places_from
places_range p zero = refl
places_range p (suc n) = rw (add-one, places_range (suc p) n)

-- the places of a queue of n packets
pub every_place : (test : ℕ → Bool) (n : ℕ) → every test (places_from 0 n) ≡ list_all test (range_with_len 0 n)
every_place test n = every_all test (places_from 0 n) ∙ ap (list_all test) (places_range 0 n)

pub total_rest : (q : Queue) (start : ℕ)
    → total q.lengths (rest q start) ≡ sum_by (λ p. get_or q.lengths p 0) (filter (staying q.marks start) (range_with_len 0 (size q)))
total_rest q start = rw (total_sum, those_filter, places_range)

-- what those that pass a test add up to, with 0 for each of the others
total_passing : (lengths : List ℕ) (test : ℕ → Bool) (ks : List ℕ)
    → total lengths (those test ks) ≡ sum_by (λ p. cond (test p) (get_or lengths p 0) 0) ks
unfolding total those
total_passing lengths test [] = refl
total_passing lengths test (k ∷ ks) =
    total_those lengths test k ks
    ∙ ap (λ (n : ℕ). cond (test k) (get_or lengths k 0) 0 + n) (total_passing lengths test ks)
    ∙ sym (sum_by-cons (λ p. cond (test p) (get_or lengths p 0) 0) k ks)

-- the same total as the sum over all places, with 0 for one that is dropped: so `rest_length` adds it up
pub total_staying : (q : Queue) (start : ℕ)
    → total q.lengths (rest q start) ≡ sum_by (λ p. cond (staying q.marks start p) (get_or q.lengths p 0) 0) (range_with_len 0 (size q))
total_staying q start = rw (← places_range) (total_passing q.lengths (staying q.marks start) (places_from 0 (size q)))
