use Rattle.std.proofs.Common.{◌+◌, ◌<◌, Bool, cond, List, sym, ap, ◌∙◌, subst, arith, length-take}
use Rattle.std.proofs.lemmas.Bool.{cond-true, cond-false}
use Rattle.index.specs.Keyed.{Indexed}
use Rattle.names.specs.declared.Name.{Name}
use Rattle.names.specs.Words.{name_code}
use Rattle.grammar.specs.Numbering.{rank, environmental}
use Rattle.parser.specs.Naming.{names_of, Appended}
use Rattle.parser.proofs.Naming.{is_listed, not_listed, names_more, numbered_more, used_is}
use Rattle.parser.proofs.table.Names.declare.Goals as goal

pub returns-in-Some : goal.returns-in-Some
returns-in-Some c =
    let names = names_of c.args.self.now in
    let e = c.in-Some.ensures.model names c.requires.indexed in
    record {
      few = c.requires.numbered.few c.in-Some.number c.args.name e;
      variable = c.requires.numbered.variables c.in-Some.number c.args.name e;
      names = sym (cond-true _ _ _ (is_listed c.args.name names c.in-Some.number e));
      known = c.requires;
    }

pub returns-then-rank-ge16 : goal.returns-then-rank-ge16
returns-then-rank-ge16 c =
    let l =
    not_listed c.args.name (names_of c.args.self.now)
    (c.in_default.ensures.model (names_of c.args.self.now) c.requires.indexed) in
    let u =
    used_is c.args.self.now c.args.name _ _ c.requires.numbered l c.is_environment-environment.ensures
    c.used-rank.ensures in
    omega (arith, u, c.if-rank-ge16.true)

pub returns : goal.returns
returns c =
    let names = names_of c.args.self.now in
    let l = not_listed c.args.name names (c.in_default.ensures.model names c.requires.indexed) in
    let b = c.is_environment-environment.ensures in
    let u = used_is c.args.self.now c.args.name _ _ c.requires.numbered l b c.used-rank.ensures in
    let f : rank c.args.name names < 16 = omega (arith, u, c.if-rank-ge16.false) in
    let A : Bool → Type 0 =
    λ e. Appended c.args.self.now c.args.name e c.variable_of-variable.result c.append.new.self in
    let a = subst A b c.append.ensures in
    let v =
    c.variable_of-variable.ensures ∙ ap (λ e. cond e 0 16 + c.used-rank.result) b
    ∙ ap (λ m. cond (environmental c.args.name) 0 16 + m) u in
    let more = names_more c.args.self.now c.append.new.self c.args.name _ a in
    let len = length-take c.args.self.now.count c.args.self.now.items in
    let m = c.args.self.now.limits in
    let i =
    c.insert.ensures.model names c.requires.indexed (omega (arith, a.room)) (omega (arith, a.room))
    (omega (arith, c.requires.roomy)) in
    record {
      few = f;
      variable = v;
      names = more ∙ sym (cond-false _ _ _ l);
      known = record {
        indexed = let P : List Name → Type 0 = λ ns. Indexed name_code c.insert.new.slots ns in subst P (sym more) i.1;
        roomy = omega (arith, c.requires.roomy, c.insert.ensures.len);
        numbered = numbered_more c.args.self.now c.append.new.self c.args.name _ a c.requires.numbered l f v;
      };
    }
