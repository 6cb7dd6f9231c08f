-- From what is known once all before the root has been judged to what the root and the nodes are judged by.
use Rattle.std.proofs.Common.{◌≡◌, ℕ, ◌<◌, ◌≤◌, List, length, sym, ◌∙◌, subst}
use Rattle.temporal.specs.Formula.{top}
use Rattle.temporal.specs.Game.{Spec}
use Rattle.tableau.specs.Card.{kind_of}
use Rattle.index.specs.declared.Slot.{Slot}
use Rattle.records.specs.declared.FormulaRecord.{FormulaRecord}
use Rattle.records.specs.Raw.{RawCard, model}
use Rattle.records.specs.Table.{formula_of}
use Rattle.rested.specs.declared.key.FormulaKey.{FormulaKey}
use Rattle.rested.specs.Listing.{Ready}
use Rattle.card.specs.Named.{kind_named}
use Rattle.marking.specs.declared.listing.Listing.{Listing}
use Rattle.marking.specs.Listings.{ListedAs}
use Rattle.card.specs.Variables.{HasVariables}
use Rattle.marking.specs.declared.terms.Terms.{Terms}
use Rattle.marking.specs.Nodes.{Known}

module _ (spec : Spec) (c : RawCard) (slots : List (Slot FormulaKey)) (l : Listing) (w : ListedAs spec c slots l) (rs : List FormulaRecord)
    (q : rs ≡ c.formulas) where
  pub initial_below : l.places.initial < length rs
  initial_below = subst (λ (xs : List FormulaRecord). l.places.initial < length xs) (sym q) w.initial_below

  pub initial_is : formula_of rs l.places.initial ≡ spec.initial
  initial_is = subst (λ (xs : List FormulaRecord). formula_of xs l.places.initial ≡ spec.initial) (sym q) w.initial_is

  pub known_here : (terms : Terms) → terms.records.now ≡ rs → terms.slots.now ≡ slots → terms.safety ≡ l.places.safety
      → kind_named terms.kind ≡ kind_of (model c) → HasVariables spec terms.variables → terms.variables.environment ≤ 16
      → terms.variables.system ≤ 16 → spec.third ≡ top → Known spec c terms
  known_here terms a b f k v few less free =
      let r = a ∙ q in record {
        labelled = w.labelled;
        nodes = w.nodes;
        moves = w.moves;
        records = r;
        ready =
            subst (λ (ys : List (Slot FormulaKey)). Ready terms.records.now ys) (sym b)
            (subst (λ (xs : List FormulaRecord). Ready xs slots) (sym r) w.ready);
        kinds = k;
        safety_below = subst (λ (n : ℕ). n < length terms.records.now) (sym f) (subst (λ (xs : List FormulaRecord). l.places.safety < length xs) (sym r) w.safety_below);
        safety_is =
            subst (λ (n : ℕ). formula_of terms.records.now n ≡ spec.safety) (sym f)
            (subst (λ (xs : List FormulaRecord). formula_of xs l.places.safety ≡ spec.safety) (sym r) w.safety_is);
        variables = v;
        few_inputs = few;
        few_replies = less;
        unconstrained = free;
      }
