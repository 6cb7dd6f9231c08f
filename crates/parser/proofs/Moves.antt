-- How a reader goes on: a token, a node, a part and then another.
use Rattle.std.proofs.Common.{◌≡◌, ℕ, ◌+◌, ◌<◌, ◌≤◌, true, ◌&&◌, ltb, List, length, IsErrAnd, Ok, Err, Result, sym, refl, ap, ◌∙◌, subst, arith}
use Rattle.std.proofs.lemmas.Bool.{and_from, lt-ltb}
use Rattle.faults.specs.declared.TextFault.{TextFault}
use Rattle.index.specs.declared.Slot.{Slot}
use Rattle.names.specs.declared.Name.{Name}
use Rattle.nodes.specs.declared.node.Node.{Node}
use Rattle.nodes.specs.declared.node.Node.TheVariants as node
use Rattle.grammar.specs.Grammar.{Out, good, stop}
use Rattle.temporal.specs.Written.{Written}
use Rattle.parser.specs.declared.reader.Reader.{Reader}
use Rattle.parser.specs.declared.reader.Part.{Part}
use Rattle.parser.specs.declared.table.Names.{Names}
use Rattle.parser.specs.Naming.{names_of, Known}
use Rattle.parser.specs.Reading.{tree_at, state_at, Ready, Went, Reads, Pushed}

module _ {slots : List (Slot Name)} {s : Reader} {at : ℕ} (r : Ready slots s at) where
  pub ready_on : (n : ℕ) → at ≤ n → Ready slots s n
  ready_on n h = record { few = omega (arith, r.few); known = r.known }

  pub ready_behind :
      {text : List ℕ} {spare : ℕ} {s' : Reader} {slots' : List (Slot Name)} {p : Part} → Went spare text at s s' slots' p →
      Ready slots' s' p.next
  ready_behind w = record { few = omega (arith, r.few, w.few); known = w.known }

  -- there is room for one more node
  pub room_behind :
      {text : List ℕ} {s' : Reader} {slots' : List (Slot Name)} {p : Part} → length text ≤ 1024 → Went 1 text at s s' slots' p →
      s'.count < 1024
  room_behind short w = omega (arith, short, r.few, w.few, w.in_text)

  -- a first node, for a token
  pub went_node :
      {text : List ℕ} {s' : Reader} {x : Node} {n : ℕ} {p : Part} → at < n → n ≤ length text → Pushed s x n s' p →
      Went 0 text at s s' slots p
  went_node lt le p = record {
    onward = omega (arith, p.next);
    in_text = omega (arith, p.next);
    few = omega (arith, p.next, p.count);
    root = omega (arith, p.root, p.count);
    grown = omega (arith, p.count);
    kept = p.kept;
    known = let P : Names → Type 0 = λ n. Known slots n in subst P (sym p.names) r.known;
  }

module _ {spare : ℕ} {text : List ℕ} {at : ℕ} {s s' : Reader} {slots : List (Slot Name)} {p : Part} where
  -- what began at a later place began at an earlier one too, and the bytes between are spare
  pub went_earlier :
      (before more : ℕ) → before + more ≤ at → Went spare text at s s' slots p → Went (spare + more) text before s s' slots p
  went_earlier before more h w = record {
    onward = omega (arith, w.onward);
    in_text = w.in_text;
    few = omega (arith, w.few);
    root = w.root;
    grown = w.grown;
    kept = w.kept;
    known = w.known;
  }

  pub went_spare : (less : ℕ) → less ≤ spare → Went spare text at s s' slots p → Went less text at s s' slots p
  went_spare less h w = record {
    onward = w.onward;
    in_text = w.in_text;
    few = omega (arith, w.few);
    root = w.root;
    grown = w.grown;
    kept = w.kept;
    known = w.known;
  }

  -- the same part, up to a later place
  pub went_later :
      (q : Part) (more : ℕ) → q.root ≡ p.root → p.next + more ≤ q.next → q.next ≤ length text → Went spare text at s s' slots p →
      Went (spare + more) text at s s' slots q
  went_later q more e h k w = record {
    onward = omega (arith, w.onward);
    in_text = k;
    few = omega (arith, w.few);
    root = omega (arith, w.root);
    grown = w.grown;
    kept = w.kept;
    known = w.known;
  }

  -- behind a part nothing has been read yet
  pub went_here : Went spare text at s s' slots p → Went 0 text p.next s' s' slots p
  went_here w = record {
    onward = omega arith;
    in_text = w.in_text;
    few = omega arith;
    root = w.root;
    grown = omega arith;
    kept = λ i h. refl;
    known = w.known;
  }

  -- one part and then another
  pub went_both :
      {spare' : ℕ} {s'' : Reader} {slots' : List (Slot Name)} {q : Part} → Went spare text at s s' slots p →
      Went spare' text p.next s' s'' slots' q →
      Went (spare + spare') text at s s'' slots' q
  went_both v w = record {
    onward = omega (arith, v.onward, w.onward);
    in_text = w.in_text;
    few = omega (arith, v.few, w.few);
    root = w.root;
    grown = omega (arith, v.grown, w.grown);
    kept = λ i h. w.kept i (omega (arith, v.grown)) ∙ v.kept i h;
    known = w.known;
  }

-- a spare byte is spent on a node
pub went_pushed :
    {spare : ℕ} {text : List ℕ} {at : ℕ} {s s' s'' : Reader} {slots : List (Slot Name)} {p q : Part} {x : Node} →
    Went (spare + 1) text at s s' slots p → Pushed s' x p.next s'' q → Went spare text at s s'' slots q
went_pushed {slots = slots} w p = record {
  onward = omega (arith, w.onward, p.next);
  in_text = omega (arith, w.in_text, p.next);
  few = omega (arith, w.few, p.next, p.count);
  root = omega (arith, p.root, p.count);
  grown = omega (arith, w.grown, p.count);
  kept = λ i h. p.kept i (omega (arith, w.grown)) ∙ w.kept i h;
  known = let P : Names → Type 0 = λ n. Known slots n in subst P (sym p.names) w.known;
}

-- the places of the parts of a new node
pub below_both : (a b n : ℕ) → a < n → b < n → (ltb a n && ltb b n) ≡ true
below_both a b n h k = and_from _ _ (lt-ltb a n h) (lt-ltb b n k)

-- the refusal of a callee, handed on
pub failed :
    (spare : ℕ) (o : Out) (text : List ℕ) (at : ℕ) (s s' : Reader) (slots : List (Slot Name)) (f : TextFault) (r : Result Part TextFault)
    →
    IsErrAnd r (λ y. y ≡ f) → o ≡ stop f → Reads spare o text at s s' slots r
failed spare o text at s s' slots f (Ok p) h e = absurd h
failed spare o text at s s' slots f (Err y) h e = e ∙ ap stop (sym h)

-- a formula that was read is what stands at its root
pub good_is :
    (s : Reader) (p : Part) (t : Written) (n : ℕ) (names : List Name) → tree_at s p.root ≡ t → p.next ≡ n → names_of s.names
    ≡ names →
    good t (record { at = n; names = names }) ≡ good (tree_at s p.root) (state_at s p.next)
good_is s p t n names e h k = λ i. good (sym e i) (record { at = sym h i; names = sym k i })
