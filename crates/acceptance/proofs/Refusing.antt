-- A call that goes by a list of refusals refuses as condition A demands: either a first refusal is due and is given, or none is due and all are passed.
use mathlib.Core.Path.{◌≡◌, refl, sym, ap, ◌∙◌, subst}
use mathlib.Core.Bool.{Bool, true, false, ◌&&◌}
use mathlib.Core.List.{List, [], ◌∷◌}
use Prim.Native.Nat.{ℕ}
use lib.Dec.{eqb}
use borrow.Author.Tests.{eqb-true}
use Rattle.std.specs.Prelude.{Result, Err}
use Rattle.refusals.specs.declared.Refused.{Refused}
use Rattle.refusals.specs.Refusals.{Refusal, unless_refused, number_of}
use Rattle.refusals.proofs.Numbers.{refused_of}
use Rattle.refusals.proofs.Passing.{pass, stop}
use Rattle.bank.proofs.Blank.{both_true}
use Rattle.acceptance.specs.ConditionA.{FirstDue, here, later, Answers, Ended, Refuses}

-- ---- a list of refusals

abbrev pub NoneDue : List Refusal → Type 0
NoneDue [] = Unit {0}
NoneDue (r ∷ rs) = (r.due ≡ false) × NoneDue rs

-- each number of the list is that of a refusal
abbrev pub are_numbers : List Refusal → Bool
are_numbers [] = true
are_numbers (r ∷ rs) = eqb (number_of (refused_of r.number)) r.number && are_numbers rs

first_numbered : {n : ℕ} {rs : List Refusal} → FirstDue n rs → are_numbers rs ≡ true → number_of (refused_of n) ≡ n
first_numbered (here {r} {rs} d) e = eqb-true _ _ (both_true _ (are_numbers rs) e).0
first_numbered (later {r = r} {rs} d f) e = first_numbered f (both_true (eqb (number_of (refused_of r.number)) r.number) _ e).1

-- how a list is gone through
pub data Through (rs : List Refusal) : Type 0 where
  met : (n : ℕ) → FirstDue n rs → Through rs
  passed : NoneDue rs → Through rs

pub through : (rs : List Refusal) → Through rs
through [] = passed tt
through (r ∷ rs) = go r.due refl (through rs)
  where
    go : (b : Bool) → r.due ≡ b → Through rs → Through (r ∷ rs)
    go true e t = met r.number (here e)
    go false e (met n f) = met n (later e f)
    go false e (passed p) = passed (e, p)

module _ {X : Type 0} (refuse : ℕ → X) (grant : X) where
  pub given : {n : ℕ} {rs : List Refusal} → FirstDue n rs → unless_refused rs refuse grant ≡ refuse n
  given (here {r} {rs} d) = stop r rs refuse grant d
  given (later {n} {r} {rs} d f) = pass r rs refuse grant d ∙ given f

  pub granted : (rs : List Refusal) → NoneDue rs → unless_refused rs refuse grant ≡ grant
  granted [] p = refl
  granted (r ∷ rs) p = pass r rs refuse grant p.0 ∙ granted rs p.1

-- ---- a call that may be refused

-- what is said of an outcome: refusals of different numbers differ, and `grant` says none of them
module _ {E X S : Type 0} (saying : E → S) (refused_as : ℕ → S) (one_number : (m n : ℕ) → refused_as m ≡ refused_as n → m ≡ n)
    (outcome : E → X) (says : X → S) (says_so : (e : E) → says (outcome e) ≡ saying e)
    (refuse : ℕ → X) (refuse_says : (n : ℕ) → says (refuse n) ≡ refused_as n) (list : List Refusal) (numbered : are_numbers list ≡ true)
    (refusal : (r : Refused) → (e : E) × (outcome e ≡ refuse (number_of r))) (grant : X) (no_refusal : (n : ℕ) → says grant ≡ refused_as n → ⊥) (granting : (e : E) × (outcome e ≡ grant)) where
  abbrev Admits : E → Type 0
  Admits e = outcome e ≡ unless_refused list refuse grant

  pub answers : Answers saying refused_as list Admits
  answers = record {
    returns = some (through list);
    meets = λ e n p f. sym (says_so e) ∙ ap says (p ∙ given refuse grant f) ∙ refuse_says n;
    no_other = λ e n p q. due n (sym q ∙ sym (says_so e) ∙ ap says p) (through list);
  }
    where
      some : Through list → (e : E) × Admits e
      some (met n f) =
          let r = refusal (refused_of n) in
          (r.0, r.1 ∙ ap refuse (first_numbered f numbered) ∙ sym (given refuse grant f))
      some (passed p) = (granting.0, granting.1 ∙ sym (granted refuse grant list p))

      due : (n : ℕ) → refused_as n ≡ says (unless_refused list refuse grant) → Through list → FirstDue n list
      due n e (met m f) = subst (λ (i : ℕ). FirstDue i list) (one_number m n (sym (e ∙ ap says (given refuse grant f) ∙ refuse_says m))) f
      due n e (passed p) = absurd (no_refusal n (sym (e ∙ ap says (granted refuse grant list p))))

-- a call that is lent nothing that it could alter: its outcome is what it says
module _ {A S : Type 0} (saying : Result A Refused → S) (refused_as : ℕ → S) (one_number : (m n : ℕ) → refused_as m ≡ refused_as n → m ≡ n)
    (refusal_said : (r : Refused) → saying (Err r) ≡ refused_as (number_of r)) (list : List Refusal) (numbered : are_numbers list ≡ true)
    (grant : S) (no_refusal : (n : ℕ) → grant ≡ refused_as n → ⊥) (grants : Result A Refused) (grants_said : saying grants ≡ grant) where
  pub alone : Answers saying refused_as list (λ r. saying r ≡ unless_refused list refused_as grant)
  alone =
      answers saying refused_as one_number saying (λ s. s) (λ r. refl) refused_as (λ n. refl) list numbered (λ r. (Err r, refusal_said r)) grant no_refusal
      (grants, grants_said)

-- ---- a call that is lent something

-- outcomes of type X: what is said and what was lent, joined and taken apart
pub record Joins (S B X : Type 0) : Type 0 where
  pub join : S → B → X
  pub says : X → S
  pub lent : X → B
  pub says_joined : (s : S) (b : B) → says (join s b) ≡ s
  pub lent_joined : (s : S) (b : B) → lent (join s b) ≡ b

-- `grants` is what the call answers where no refusal is due
module _ {A B S X : Type 0} (saying : Result A Refused → S) (j : Joins S B X) (refused_as : ℕ → S)
    (one_number : (m n : ℕ) → refused_as m ≡ refused_as n → m ≡ n) (refusal_said : (r : Refused) → saying (Err r) ≡ refused_as (number_of r))
    (list : List Refusal) (numbered : are_numbers list ≡ true) (before after : B) (grant : X) (grants : Result A Refused)
    (granting : j.join (saying grants) after ≡ grant) (no_refusal : (n : ℕ) → saying grants ≡ refused_as n → ⊥) where
  abbrev refuse : ℕ → X
  refuse n = j.join (refused_as n) before

  abbrev Promised : Result A Refused → B → Type 0
  Promised r b = j.join (saying r) b ≡ unless_refused list refuse grant

  answering : Answers {E = Ended (Result A Refused) B} (λ e. saying e.answer) refused_as list (λ e. Promised e.answer e.after)
  answering =
      answers (λ (e : Ended (Result A Refused) B). saying e.answer) refused_as one_number
      (λ (e : Ended (Result A Refused) B). j.join (saying e.answer) e.after) j.says (λ e. j.says_joined (saying e.answer) e.after)
      refuse (λ n. j.says_joined (refused_as n) before) list numbered
      (λ r. (record { answer = Err r; after = before }, ap (λ (s : S). j.join s before) (refusal_said r)))
      grant (λ n e. no_refusal n (sym (j.says_joined (saying grants) after) ∙ ap j.says granting ∙ e))
      (record { answer = grants; after = after }, granting)

  pub refuses : Refuses saying refused_as list before Promised
  refuses = record {
    answers = answering;
    alters_nothing = λ r b n p e.
        let f = answering.no_other (record { answer = r; after = b }) n p e in
        sym (j.lent_joined (saying r) b) ∙ ap j.lent (p ∙ given refuse grant f) ∙ j.lent_joined (refused_as n) before;
  }
