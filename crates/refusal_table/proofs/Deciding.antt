-- A test decides a condition, and the first test that holds answers: so a number is given exactly when its condition holds and no earlier one does.
use Rattle.std.proofs.Common.{◌≡◌, ℕ, Bool, true, false, cond, eqb, ◌⊎◌, ◌↔◌, List, [], ◌∷◌, refl, inl, inr, ⊎_elim, arith}
use borrow.Author.Tests.{eqb-false}
use Rattle.fields.specs.Cases.{among}
use Rattle.fields.proofs.Tests.{Decides, equal, one_of}
use Rattle.refusal_table.specs.Terms.{OneOf, Row, ◌unless◌}

-- a number is one of some
pub listed : (c : ℕ) (ks : List ℕ) → Decides (among c ks) (OneOf c ks)
listed c [] = record { yes = λ e. absurd (let z : ◌≡◌ {A = ℕ} 0 1 = cc in omega arith); no = λ e h. h }
listed c (k ∷ ks) = one_of (equal c k) (listed c ks)

-- answers of which some are refusals with a number, and what a refusal leaves
module _ {O : Type 0} (Is : ℕ → O → Type 0) (Left : O → Type 0) where
  -- a refusal with this number alone
  pub record Gives (n : ℕ) (o : O) : Type 0 where
    pub is : Is n o
    pub only : (m : ℕ) → Is m o → m ≡ n
    pub left : Left o

  -- a refusal with one of these numbers, or none
  pub record Among (ks : List ℕ) (o : O) : Type 0 where
    pub no_other : (m : ℕ) → Is m o → OneOf m ks
    pub left : (m : ℕ) → Is m o → Left o

module _ {O : Type 0} {Is : ℕ → O → Type 0} {Left : O → Type 0} where
  pub no_refusal : {o : O} → ((m : ℕ) → ¬ Is m o) → Among Is Left [] o
  no_refusal h = record { no_other = λ m i. h m i; left = λ m i. absurd (h m i) }

  pub then_one : {n : ℕ} {ks : List ℕ} {x rest : O} (t : Bool) → Gives Is Left n x → Among Is Left ks rest → Among Is Left (n ∷ ks) (cond t x rest)
  then_one true g h = record { no_other = λ m i. inl (g.only m i); left = λ m i. g.left }
  then_one false g h = record { no_other = λ m i. inr (h.no_other m i); left = h.left }

  pub not_given : {k : ℕ} {ks : List ℕ} {o : O} → among k ks ≡ false → Among Is Left ks o → ¬ Is k o
  not_given {k} {ks} e h i = (listed k ks).no e (h.no_other k i)

  -- a number is given by the first test, or by a later one
  pub here : {n : ℕ} {ks : List ℕ} {x rest : O} {P : Type 0} {t : Bool} → Gives Is Left n x → Decides t P → Among Is Left ks rest → among n ks ≡ false
      → Is n (cond t x rest) ↔ P
  here {t = true} g d h e = (λ i. d.yes refl, λ p. g.is)
  here {t = false} g d h e = (λ i. absurd (not_given e h i), λ p. absurd (d.no refl p))

  pub later : {k n : ℕ} {x rest : O} {P Q : Type 0} {t : Bool} → Gives Is Left n x → Decides t P → eqb k n ≡ false → Is k rest ↔ Q
      → Is k (cond t x rest) ↔ (Q unless P)
  later {k} {n} {t = true} g d e r = (λ i. absurd (eqb-false k n e (g.only k i)), λ q. absurd (q.1 (d.yes refl)))
  later {t = false} g d e r = (λ i. (r.0 i, d.no refl), λ q. r.1 q.0)

-- unless one and then another; and where the earlier one cannot hold besides
pub joined : {A P Q R : Type 0} → A ↔ ((Q unless R) unless P) → A ↔ (Q unless (P ⊎ R))
joined h = (λ a. let q = h.0 a in (q.0.0, ⊎_elim q.1 q.0.1), λ q. h.1 ((q.0, λ r. q.1 (inr r)), λ p. q.1 (inl p)))

pub alone : {A P Q : Type 0} → (Q → ¬ P) → A ↔ (Q unless P) → A ↔ Q
alone n h = (λ a. (h.0 a).0, λ q. h.1 (q, n q))

-- three of them, of which the first two never hold together: 1, 2, 5 and 3, 4, 5 at the encoder, 3, 4, 8 at the decoder
module _ {O : Type 0} (Is : ℕ → O → Type 0) (Left : O → Type 0) where
  pub record Three (i j k : ℕ) (o : O) (P Q R : Type 0) : Type 0 where
    pub first : Row (Is i o) P (Left o)
    pub second : Row (Is j o) Q (Left o)
    pub third : Row (Is k o) (R unless (P ⊎ Q)) (Left o)
    pub no_other : (m : ℕ) → Is m o → OneOf m (i ∷ j ∷ k ∷ [])

module _ {O : Type 0} {Is : ℕ → O → Type 0} {Left : O → Type 0} {i j k : ℕ} {x y z done : O} (gi : Gives Is Left i x) (gj : Gives Is Left j y)
    (gk : Gives Is Left k z) (none : (m : ℕ) → ¬ Is m done) where
  pub three : {P Q R : Type 0} {a b c : Bool} → among i (j ∷ k ∷ []) ≡ false → among j (k ∷ []) ≡ false → eqb j i ≡ false → eqb k i ≡ false → eqb k j ≡ false
      → (Q → ¬ P)
      → Decides a P
      → Decides b Q
      → Decides c R
      → Three Is Left i j k (cond a x (cond b y (cond c z done))) P Q R
  three {a = a} {b = b} {c = c} ijk jk ji ki kj excluded p q r =
      let after_two = then_one c gk (no_refusal none) in
      let after_one = then_one b gj after_two in
      let all = then_one a gi after_one in
      record {
        first = record { given = here gi p after_one ijk; leaves = all.left i };
        second = record { given = alone excluded (later gi p ji (here gj q after_two jk)); leaves = all.left j };
        third = record { given = joined (later gi p ki (later gj q kj (here gk r (no_refusal none) refl))); leaves = all.left k };
        no_other = all.no_other;
      }
