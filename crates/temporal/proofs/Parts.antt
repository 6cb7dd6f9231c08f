-- The list of parts: what entering a formula does to it.
use mathlib.Core.Path.{◌≡◌, refl, sym, ◌∙◌, ap, subst}
use mathlib.Core.Logic.{◌⊎◌, inl, inr}
use mathlib.Core.Bool.{Bool, true, false, cond, false≢true}
use mathlib.Core.List.{List, [], ◌∷◌, ◌++◌, append_assoc, append-nil}
use Prim.Native.Nat.{ℕ, ◌≤◌}
use native.Mathlib.Omega.{arith}
use lib.ListN.{length, length-append}
use Rattle.temporal.specs.Formula.{Formula, bot, top, lit, conj, disj, next, always, eventually, is_bot, is_top, kind, Fine}
use Rattle.temporal.specs.Parts.{◌∈◌, first, later, member, put, enter, parts_of, IsPart, Once, Closed, Entered}
use Rattle.temporal.proofs.Tells.{Tells}
use Rattle.temporal.proofs.Lists.{cast, in_cons, in_left, in_right, in_append, one_member}
use Rattle.temporal.proofs.Same.{member_tells}

-- ── parts ──
pub part_self : (f : Formula) → IsPart f f
part_self bot = refl
part_self top = refl
part_self (lit s i) = refl
part_self (conj f g) = inl refl
part_self (disj f g) = inl refl
part_self (next n f) = inl refl
part_self (always n m f) = inl refl
part_self (eventually n m f) = inl refl

-- a part of a part is a part
pub part_part : (f x p : Formula) → IsPart p x → IsPart x f → IsPart p f
part_part bot x p a e = subst (λ (y : Formula). IsPart p y) e a
part_part top x p a e = subst (λ (y : Formula). IsPart p y) e a
part_part (lit s i) x p a e = subst (λ (y : Formula). IsPart p y) e a
part_part (conj f g) x p a (inl e) = subst (λ (y : Formula). IsPart p y) e a
part_part (conj f g) x p a (inr (inl b)) = inr (inl (part_part f x p a b))
part_part (conj f g) x p a (inr (inr b)) = inr (inr (part_part g x p a b))
part_part (disj f g) x p a (inl e) = subst (λ (y : Formula). IsPart p y) e a
part_part (disj f g) x p a (inr (inl b)) = inr (inl (part_part f x p a b))
part_part (disj f g) x p a (inr (inr b)) = inr (inr (part_part g x p a b))
part_part (next n f) x p a (inl e) = subst (λ (y : Formula). IsPart p y) e a
part_part (next n f) x p a (inr b) = inr (part_part f x p a b)
part_part (always n m f) x p a (inl e) = subst (λ (y : Formula). IsPart p y) e a
part_part (always n m f) x p a (inr b) = inr (part_part f x p a b)
part_part (eventually n m f) x p a (inl e) = subst (λ (y : Formula). IsPart p y) e a
part_part (eventually n m f) x p a (inr b) = inr (part_part f x p a b)

-- a part of a formula in normal form is in normal form
pub part_fine : (ne ns : ℕ) (f p : Formula) → IsPart p f → Fine ne ns f → Fine ne ns p
part_fine ne ns bot p e h = subst (Fine ne ns) (sym e) h
part_fine ne ns top p e h = subst (Fine ne ns) (sym e) h
part_fine ne ns (lit s i) p e h = subst (Fine ne ns) (sym e) h
part_fine ne ns (conj f g) p (inl e) h = subst (Fine ne ns) (sym e) h
part_fine ne ns (conj f g) p (inr (inl a)) h = part_fine ne ns f p a h.0.1
part_fine ne ns (conj f g) p (inr (inr a)) h = part_fine ne ns g p a h.1.1
part_fine ne ns (disj f g) p (inl e) h = subst (Fine ne ns) (sym e) h
part_fine ne ns (disj f g) p (inr (inl a)) h = part_fine ne ns f p a h.0.1
part_fine ne ns (disj f g) p (inr (inr a)) h = part_fine ne ns g p a h.1.1
part_fine ne ns (next n f) p (inl e) h = subst (Fine ne ns) (sym e) h
part_fine ne ns (next n f) p (inr a) h = part_fine ne ns f p a h.1.1
part_fine ne ns (always n m f) p (inl e) h = subst (Fine ne ns) (sym e) h
part_fine ne ns (always n m f) p (inr a) h = part_fine ne ns f p a h.1.1
part_fine ne ns (eventually n m f) p (inl e) h = subst (Fine ne ns) (sym e) h
part_fine ne ns (eventually n m f) p (inr a) h = part_fine ne ns f p a h.1.1

-- ── adding to a list ──
-- zs is ys with the formulas that have P added at the end, each that is not there yet, once
pub record Adds (ys : List Formula) (P : Formula → Type 0) (zs : List Formula) : Type 0 where
  pub once : Once ys → Once zs
  pub old : (x : Formula) → x ∈ ys → x ∈ zs
  pub all : (x : Formula) → P x → x ∈ zs
  pub only : (x : Formula) → x ∈ zs → (x ∈ ys) ⊎ P x
  pub again : ((x : Formula) → P x → x ∈ ys) → zs ≡ ys
  pub more : (ws : List Formula) × (zs ≡ ys ++ ws)

once_end : (f : Formula) (ys : List Formula) → (f ∈ ys → ⊥) → Once ys → Once (ys ++ (f ∷ []))
once_end f [] n o = ((λ m. elim m [ ]), tt)
once_end f (y ∷ ys) n o = (
  (λ m. elim (in_append ys (f ∷ []) y m) [ inl a ↦ o.0 a | inr b ↦ one_member f (λ z. z ∈ (y ∷ ys) → ⊥) n y b first ]),
  once_end f ys (λ m. n (later m)) o.1,
)

pub put_adds : (ys : List Formula) (f : Formula) → Adds ys (λ x. x ≡ f) (put ys f)
put_adds ys f = go (member f ys) (member_tells f ys)
  where
    go : (b : Bool) → Tells b (f ∈ ys) → Adds ys (λ x. x ≡ f) (cond b ys (ys ++ (f ∷ [])))
    go true t = record {
      once = λ o. o;
      old = λ x m. m;
      all = λ x e. cast (sym e) (t.0 refl);
      only = λ x m. inl m;
      again = λ h. refl;
      more = ([], sym (append-nil ys));
    }
    go false t = record {
      once = once_end f ys (λ m. false≢true (t.1 m));
      old = λ x m. in_left ys (f ∷ []) x m;
      all = λ x e. cast (sym e) (in_right ys (f ∷ []) f first);
      only = λ x m. elim (in_append ys (f ∷ []) x m) [ inl a ↦ inl a | inr b ↦ inr (one_member f (λ z. z ≡ f) refl x b) ];
      again = λ h. absurd (false≢true (t.1 (h f refl)));
      more = (f ∷ [], refl);
    }

-- first the one, then the other
then_adds : {ys zs ws : List Formula} {P Q : Formula → Type 0} → Adds ys P zs → Adds zs Q ws → Adds ys (λ x. P x ⊎ Q x) ws
then_adds {ys} {zs} {ws} {P} {Q} a b = record {
  once = λ o. b.once (a.once o);
  old = λ x m. b.old x (a.old x m);
  all = λ x s. elim s [ inl p ↦ b.old x (a.all x p) | inr q ↦ b.all x q ];
  only = λ x m. elim (b.only x m) [ inl c ↦ elim (a.only x c) [ inl d ↦ inl d | inr p ↦ inr (inl p) ] | inr q ↦ inr (inr q) ];
  again = λ h. let e = a.again (λ x p. h x (inl p)) in
      b.again (λ x q. subst (λ (l : List Formula). x ∈ l) (sym e) (h x (inr q))) ∙ e;
  more = (
    a.more.0 ++ b.more.0,
    b.more.1 ∙ ap (λ (l : List Formula). l ++ b.more.0) a.more.1 ∙ append_assoc ys a.more.0 b.more.0,
  );
}

alike_adds : {ys zs : List Formula} {P Q : Formula → Type 0} → ((x : Formula) → P x → Q x) → ((x : Formula) → Q x → P x) → Adds ys P zs
    → Adds ys Q zs
alike_adds to back a = record {
  once = a.once;
  old = a.old;
  all = λ x q. a.all x (back x q);
  only = λ x m. elim (a.only x m) [ inl c ↦ inl c | inr p ↦ inr (to x p) ];
  again = λ h. a.again (λ x p. h x (to x p));
  more = a.more;
}

swap : {A B : Type 0} → A ⊎ B → B ⊎ A
swap (inl a) = inr a
swap (inr b) = inl b

-- a formula behind its parts
whole_adds : {ys zs : List Formula} {P : Formula → Type 0} (w : Formula) → Adds ys P zs → Adds ys (λ x. (x ≡ w) ⊎ P x) (put zs w)
whole_adds {ys} {zs} {P} w a = alike_adds (λ x. swap) (λ x. swap) (then_adds a (put_adds zs w))

pub enter_adds : (f : Formula) (ys : List Formula) → Adds ys (λ x. IsPart x f) (enter ys f)
enter_adds bot ys = put_adds ys bot
enter_adds top ys = put_adds ys top
enter_adds (lit s i) ys = put_adds ys (lit s i)
enter_adds (conj f g) ys = whole_adds (conj f g) (then_adds (enter_adds f ys) (enter_adds g (enter ys f)))
enter_adds (disj f g) ys = whole_adds (disj f g) (then_adds (enter_adds f ys) (enter_adds g (enter ys f)))
enter_adds (next n f) ys = whole_adds (next n f) (enter_adds f ys)
enter_adds (always n m f) ys = whole_adds (always n m f) (enter_adds f ys)
enter_adds (eventually n m f) ys = whole_adds (eventually n m f) (enter_adds f ys)

-- ── what it gives ──
pub entered : (ys : List Formula) (f : Formula) → Entered ys f
entered ys f = let a = enter_adds f ys in record { once = a.once; old = a.old; all = a.all; only = a.only; again = a.again }

pub enter_extends : (ys : List Formula) (f : Formula) → (zs : List Formula) × (enter ys f ≡ ys ++ zs)
enter_extends ys f = (enter_adds f ys).more

pub enter_longer : (ys : List Formula) (f : Formula) → length ys ≤ length (enter ys f)
enter_longer ys f =
    let r = enter_extends ys f in
    let e : length (enter ys f) ≡ length (ys ++ r.0) = ap length r.1 in
    omega (arith, e, length-append ys r.0)

pub put_longer : (ys : List Formula) (f : Formula) → length ys ≤ length (put ys f)
put_longer ys f =
    let r = (put_adds ys f).more in
    let e : length (put ys f) ≡ length (ys ++ r.0) = ap length r.1 in
    omega (arith, e, length-append ys r.0)

-- the formula itself is listed
pub enter_has : (ys : List Formula) (f : Formula) → f ∈ enter ys f
enter_has ys f = (enter_adds f ys).all f (part_self f)

pub enter_closed : (ys : List Formula) (f : Formula) → Closed ys → Closed (enter ys f)
enter_closed ys f c x m p a =
    elim ((enter_adds f ys).only x m) [ inl o ↦ (enter_adds f ys).old p (c x o p a) | inr b ↦ (enter_adds f ys).all p (part_part f x p a b) ]

-- a list closed under parts is not changed by what it has
pub enter_member : (ys : List Formula) (f : Formula) → Closed ys → member f ys ≡ true → enter ys f ≡ ys
enter_member ys f c h = (enter_adds f ys).again (λ x p. c f ((member_tells f ys).0 h) x p)

-- ── the parts of two formulas ──
abbrev pub constants : List Formula
constants = bot ∷ (top ∷ [])

bot_top : bot ≡ top → ⊥
bot_top e = let z : is_bot ≡ is_top = ap kind e in let y : ◌≡◌ {A = ℕ} 0 1 = cc in omega arith

pub constants_once : Once constants
constants_once = ((λ m. bot_top (one_member top (λ x. x ≡ top) refl bot m)), ((λ m. elim m [ ]), tt))

pub constants_closed : Closed constants
constants_closed f m p a = go (in_cons m)
  where
    go : (f ≡ bot) ⊎ (f ∈ (top ∷ [])) → p ∈ constants
    go (inl e) = cast (sym (subst (λ (x : Formula). IsPart p x) e a)) first
    go (inr t) = cast (sym (subst (λ (x : Formula). IsPart p x) (one_member top (λ x. x ≡ top) refl f t) a)) (later first)

pub parts_once : (α ψ : Formula) → Once (parts_of α ψ)
parts_once α ψ = (enter_adds ψ (enter constants α)).once ((enter_adds α constants).once constants_once)

pub parts_closed : (α ψ : Formula) → Closed (parts_of α ψ)
parts_closed α ψ = enter_closed (enter constants α) ψ (enter_closed constants α constants_closed)

pub parts_first : (α ψ : Formula) → α ∈ parts_of α ψ
parts_first α ψ = (enter_adds ψ (enter constants α)).old α (enter_has constants α)

pub parts_second : (α ψ : Formula) → ψ ∈ parts_of α ψ
parts_second α ψ = enter_has (enter constants α) ψ

-- a formula listed is a constant or a part of one of the two
pub parts_only : (α ψ x : Formula) → x ∈ parts_of α ψ → (x ∈ constants) ⊎ (IsPart x α ⊎ IsPart x ψ)
parts_only α ψ x m = elim ((enter_adds ψ (enter constants α)).only x m) [
  | inl a ↦ elim ((enter_adds α constants).only x a) [ inl c ↦ inl c | inr p ↦ inr (inl p) ]
  | inr q ↦ inr (inr q)
]

pub parts_fine : (ne ns : ℕ) (α ψ : Formula) → Fine ne ns α → Fine ne ns ψ → (x : Formula) → x ∈ parts_of α ψ → Fine ne ns x
parts_fine ne ns α ψ a b x m = elim (parts_only α ψ x m) [
  | inl c ↦ elim (in_cons c) [ inl e ↦ subst (Fine ne ns) (sym e) tt | inr t ↦ one_member top (Fine ne ns) tt x t ]
  | inr s ↦ elim s [ inl p ↦ part_fine ne ns α x p a | inr q ↦ part_fine ne ns ψ x q b ]
]
