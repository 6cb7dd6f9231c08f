-- What a new node holds: a unary operator before a part, or two parts joined.
use Rattle.std.proofs.Common.{◌≡◌, ℕ, ◌<◌, List, ap, ◌∙◌, arith}
use Rattle.index.specs.declared.Slot.{Slot}
use Rattle.names.specs.declared.Name.{Name}
use Rattle.nodes.specs.declared.node.Connective.{Connective}
use Rattle.nodes.specs.declared.node.Connective.TheVariants as connective
use Rattle.temporal.specs.Written.{conjunction}
use Rattle.nodes.specs.declared.node.Prefix.{Prefix}
use Rattle.nodes.specs.declared.node.Node.TheVariants as node
use Rattle.nodes.specs.Trees.{apply, join}
use Rattle.grammar.specs.Grammar.{good}
use Rattle.parser.specs.declared.reader.Reader.{Reader}
use Rattle.parser.specs.declared.reader.Part.{Part}
use Rattle.parser.specs.Naming.{names_of}
use Rattle.parser.specs.Reading.{tree_at, state_at, Went, Pushed}
use Rattle.parser.proofs.Moves.{went_earlier, went_both, went_pushed, good_is}

module _ {text : List ℕ} {at from : ℕ} {s s₁ : Reader} {slots : List (Slot Name)} {p : Part} (lt : at < from)
    (w : Went 0 text from s s₁ slots p) where
  -- a part behind an opener, whose byte is spare
  pub opened : Went 1 text at s s₁ slots p
  opened = went_earlier at 1 (omega (arith, lt)) w

module _ {text : List ℕ} {at from : ℕ} {s s₁ s₂ : Reader} {slots : List (Slot Name)} {p q : Part} {u : Prefix}
    (lt : at < from) (w : Went 0 text from s s₁ slots p) (put : Pushed s₁ (node.Unary u p.root) p.next s₂ q) where
  pub unary_went : Went 0 text at s s₂ slots q
  unary_went = went_pushed (opened lt w) put

  pub unary_good : good (apply u (tree_at s₁ p.root)) (state_at s₁ p.next) ≡ good (tree_at s₂ q.root) (state_at s₂ q.next)
  unary_good = good_is s₂ q _ _ _ put.top put.next (ap names_of put.names)

module _ {text : List ℕ} {at from : ℕ} {s s₁ s₂ : Reader} {slots slots' : List (Slot Name)} {p q : Part}
    (v : Went 0 text at s s₁ slots p) (lt : p.next < from) (w : Went 0 text from s₁ s₂ slots' q) where
  -- two parts and the byte of what joins them
  pub both_parts : Went 1 text at s s₂ slots' q
  both_parts = went_both v (opened lt w)

  module _ {s₃ : Reader} {c : Connective} {r : Part} (put : Pushed s₂ (node.Binary c p.root q.root) q.next s₃ r) where
    pub binary_went : Went 0 text at s s₃ slots' r
    binary_went = went_pushed both_parts put

    pub binary_good :
        good (join c (tree_at s₁ p.root) (tree_at s₂ q.root)) (state_at s₂ q.next)
        ≡ good (tree_at s₃ r.root) (state_at s₃ r.next)
    binary_good =
        good_is s₃ r _ _ _ (put.top ∙ ap (λ t. join c t (tree_at s₂ q.root)) (w.kept p.root v.root)) put.next
        (ap names_of put.names)

-- two lines joined: the end of the second has a spare byte
module _ {text : List ℕ} {at : ℕ} {s s₁ s₂ s₃ : Reader} {slots slots' : List (Slot Name)} {p q r : Part}
    (v : Went 0 text at s s₁ slots p) (w : Went 1 text p.next s₁ s₂ slots' q)
    (put : Pushed s₂ (node.Binary connective.And p.root q.root) q.next s₃ r) where
  pub line_went : Went 0 text at s s₃ slots' r
  line_went = went_pushed (went_both v w) put

  pub line_good :
      good (conjunction (tree_at s₁ p.root) (tree_at s₂ q.root)) (state_at s₂ q.next)
      ≡ good (tree_at s₃ r.root) (state_at s₃ r.next)
  line_good =
      good_is s₃ r _ _ _ (put.top ∙ ap (λ t. conjunction t (tree_at s₂ q.root)) (w.kept p.root v.root)) put.next
      (ap names_of put.names)
