-- What a test tells: it is not both true and false, and it decides a condition.
use Rattle.std.proofs.Common.{◌≡◌, ℕ, ◌<◌, Bool, true, false, cond, not, ◌&&◌, ◌||◌, eqb, ltb, ◌⊎◌, ◌↔◌, refl, inl, inr, ⊎_elim, arith, ltb-false, ltb-true, eqb-true}
use borrow.Author.Tests.{eqb-false}

pub clash : {A : Type 0} {t : Bool} → t ≡ false → t ≡ true → A
clash p q = absurd (let z : ◌≡◌ {A = ℕ} 0 1 = cc in omega arith)

pub never : {A : Type 0} → false ≡ true → A
never q = clash refl q

-- of two tests that do not hold either way neither does
pub neither : (t u : Bool) → (t || u) ≡ false → (t ≡ false) × (u ≡ false)
neither true u h = clash h refl
neither false u h = (refl, h)

-- a test decides a condition
pub record Decides (t : Bool) (P : Type 0) : Type 0 where
  pub yes : t ≡ true → P
  pub no : t ≡ false → ¬ P

-- numbers that are equal, and that are less
pub equal : (a b : ℕ) → Decides (eqb a b) (a ≡ b)
equal a b = record { yes = eqb-true a b; no = eqb-false a b }

pub less : (a b : ℕ) → Decides (ltb a b) (a < b)
less a b = record { yes = ltb-true a b; no = λ e h. let k = ltb-false a b e in omega arith }

-- a condition and its negation, both of two, one of two
pub not_decides : {P : Type 0} {t : Bool} → Decides t P → Decides (not t) (¬ P)
not_decides {t = true} d = record { yes = λ e. clash refl e; no = λ e n. n (d.yes refl) }
not_decides {t = false} d = record { yes = λ e. d.no refl; no = λ e. clash e refl }

pub both : {P Q : Type 0} {t u : Bool} → Decides t P → Decides u Q → Decides (t && u) (P × Q)
both {t = true} p q = record { yes = λ e. (p.yes refl, q.yes e); no = λ e h. q.no e h.1 }
both {t = false} p q = record { yes = λ e. clash refl e; no = λ e h. p.no refl h.0 }

-- the second of two, where the first holds
pub both_then : {P Q : Type 0} {t u : Bool} → Decides t P → (P → Decides u Q) → Decides (t && u) (P × Q)
both_then {t = true} p q = both {t = true} p (q (p.yes refl))
both_then {t = false} p q = record { yes = λ e. clash refl e; no = λ e h. p.no refl h.0 }

pub one_of : {P Q : Type 0} {t u : Bool} → Decides t P → Decides u Q → Decides (t || u) (P ⊎ Q)
one_of {t = true} p q = record { yes = λ e. inl (p.yes refl); no = λ e. clash e refl }
one_of {t = false} p q = record { yes = λ e. inr (q.yes e); no = λ e. ⊎_elim (p.no refl) (q.no e) }

-- a condition that is decided holds where its negation does not
pub not_not : {P : Type 0} {t : Bool} → Decides t P → ¬ (¬ P) → P
not_not {t = true} d n = d.yes refl
not_not {t = false} d n = absurd (n (d.no refl))

-- a test decides that it holds
pub itself : (t : Bool) → Decides t (t ≡ true)
itself t = record { yes = λ e. e; no = λ e q. clash e q }

-- the same condition in other words
pub in_words : {P Q : Type 0} {t : Bool} → P ↔ Q → Decides t P → Decides t Q
in_words h d = record { yes = λ e. h.0 (d.yes e); no = λ e q. d.no e (h.1 q) }

-- two conditions that one test decides
pub same : {P Q : Type 0} {t : Bool} → Decides t P → Decides t Q → P ↔ Q
same {t = true} p q = (λ h. q.yes refl, λ h. p.yes refl)
same {t = false} p q = (λ h. absurd (p.no refl h), λ h. absurd (q.no refl h))

-- two tests of one condition
pub same_test : {P : Type 0} {t u : Bool} → Decides t P → Decides u P → t ≡ u
same_test {t = true} {u = true} p q = refl
same_test {t = true} {u = false} p q = absurd (q.no refl (p.yes refl))
same_test {t = false} {u = true} p q = absurd (p.no refl (q.yes refl))
same_test {t = false} {u = false} p q = refl

-- what holds of either way that a test may go
pub tested : {O : Type 0} (F : O → Type 0) {x rest : O} {P : Type 0} {t : Bool} → Decides t P → (P → F x) → (¬ P → F rest) → F (cond t x rest)
tested F {t = true} d f g = f (d.yes refl)
tested F {t = false} d f g = g (d.no refl)
