-- Blank lines, headers and the third section: what the grammar has and what is read.
use Rattle.std.proofs.Common.{◌≡◌, ℕ, zero, suc, ◌+◌, ◌≤◌, Bool, true, false, cond, ◌&&◌, ◌||◌, eqb, ltb, leb, List, [], ◌∷◌, length, get_or, Ok, codes, sym, refl, ap, ◌∙◌, subst, ⊎_elim, arith}
use Rattle.std.specs.Char.{is_ascii_digit, is_ascii_alphabetic}
use Rattle.std.specs.Str.{bytes_eq}
use Rattle.std.proofs.lemmas.Bool.{false≢true, cond-true, cond_both, leb-true, and_parts, and_from, or_cases, or_left, or_right}
use Rattle.lexer.specs.declared.token.Lexeme.{Lexeme}
use Rattle.lexer.specs.declared.token.Token.{Token}
use Rattle.lexer.specs.declared.look.Class.TheVariants.{Letter}
use Rattle.lexer.specs.Lexer.{part, run, word_token, symbol_token, token_at, look_at}
use Rattle.lexer.specs.Tokens.{is_line, is_end}
use Rattle.lexer.proofs.Looks.{look_past, look_next}
use Rattle.lexer.specs.Bounds.{then_ok}
use Rattle.grammar.specs.Sections.{is_true, is_this, past_lines, blanks, word_in, line_in, true_in, last_in, end_in, header_in, third_in, third_begins}
use Rattle.grammar.specs.Shows.{Blank, none, line, Words, done, word, Header, Third}
use Rattle.grammar.proofs.Outcomes.{split_expected, split_then, then_is}
use Rattle.grammar.proofs.Tokens.{word_not_line, true_not_line, end_not_line, line_forward, no_line_past}

-- ── the end of a text stays the end ──
not_end : (b : Bool) (x y : Token) → is_end x ≡ false → is_end y ≡ false → is_end (cond b x y) ≡ false
not_end b x y p q = cond_both b x y (λ k. is_end k ≡ false) (λ _. p) (λ _. q)

word_not_end : (w : List ℕ) → is_end (word_token w) ≡ false
word_not_end w =
    not_end (ltb 15 (length w)) _ _ refl
    (not_end (bytes_eq w (codes "True")) _ _ refl
    (not_end (bytes_eq w (codes "False")) _ _ refl
    (not_end (bytes_eq w (codes "X")) _ _ refl
    (not_end (bytes_eq w (codes "F")) _ _ refl (not_end (bytes_eq w (codes "G")) _ _ refl refl)))))

sign_not_end : (a b c : ℕ) → is_end (symbol_token a b c) ≡ false
sign_not_end a b c =
    not_end (eqb a 10) _ _ refl
    (not_end (eqb a 38) _ _ refl
    (not_end (eqb a 124) _ _ refl
    (not_end (eqb a 40) _ _ refl
    (not_end (eqb a 41) _ _ refl
    (not_end (eqb a 91) _ _ refl
    (not_end (eqb a 93) _ _ refl
    (not_end (eqb a 44) _ _ refl
    (not_end (eqb a 45) _ _ (not_end (eqb b 62) _ _ refl refl)
    (not_end (eqb a 60) _ _ (not_end (eqb b 45 && eqb c 62) _ _ refl refl) refl)))))))))

module _ (text : List ℕ) where
  token_ends : (from : ℕ) → is_end (token_at text from).token ≡ true → length text ≤ (token_at text from).next
  unfolding token_at
  token_ends from =
      let P : Lexeme → Type 0 = λ x. is_end x.token ≡ true → length text ≤ x.next in
      cond_both (leb (length text) from) _ _ P (λ le _. leb-true _ _ le) (λ _.
      cond_both (is_ascii_alphabetic (get_or text from 0)) _ _ P (λ _ e. absurd (false≢true (sym (word_not_end (part text from (run Letter text from))) ∙ e))) (λ _.
      cond_both (is_ascii_digit (get_or text from 0)) _ _ P (λ _ e. absurd (false≢true e)) (λ _ e.
      absurd (false≢true (sym (sign_not_end (get_or text from 0) (get_or text (from + 1) 0) (get_or text (from + 2) 0)) ∙ e)))))

  pub look_ends : (at : ℕ) → is_end (look_at text at).token ≡ true → length text ≤ (look_at text at).next
  unfolding look_at
  look_ends at = token_ends _

  end_stays : (at : ℕ) → is_end (look_at text at).token ≡ true → is_end (look_at text (look_at text at).next).token ≡ true
  end_stays at e = ap (λ x. is_end x.token) (sym (look_past text (look_at text at).next (look_ends at e)))

  -- ── blank lines ──
  abbrev past_by : ℕ → ℕ → Bool → ℕ
  past_by n at b = elim b [ true ↦ past_lines text n (look_at text at).next | false ↦ at ]

  past_is : (n at : ℕ) (b : Bool) → is_line (look_at text at).token ≡ b → past_lines text (suc n) at ≡ past_by n at b
  unfolding past_lines
  past_is n at b e = ap (past_by n at) e

  turn_blank :
      (n a : ℕ) (b : Bool) → is_line (look_at text a).token ≡ b →
      Blank text (look_at text a).next (past_lines text n (look_at text a).next) → Blank text a (past_by n a b)
  turn_blank n a true e next = line e next
  turn_blank n a false e next = none

  past_blank : (n a : ℕ) → Blank text a (past_lines text n a)
  unfolding past_lines
  past_blank zero a = none
  past_blank (suc n) a = turn_blank n a (is_line (look_at text a).token) refl (past_blank n (look_at text a).next)

  pub blanks_sound : (a : ℕ) → Blank text a (blanks text a)
  unfolding blanks
  blanks_sound a = past_blank (length text) a

  blank_past : (n a b : ℕ) → length text ≤ n + a → Blank text a b → is_line (look_at text b).token ≡ false → past_lines text n a ≡ b
  unfolding past_lines
  blank_past zero a b h none e = refl
  blank_past zero a b h (line q s) e = absurd (no_line_past text a (omega arith) q)
  blank_past (suc n) a b h none e = past_is n a false e
  blank_past (suc n) a b h (line q s) e =
      past_is n a true q ∙ blank_past n (look_at text a).next b (omega (arith, line_forward text a q)) s e

  pub blanks_complete : (a b : ℕ) → Blank text a b → is_line (look_at text b).token ≡ false → blanks text a ≡ b
  unfolding blanks
  blanks_complete a b s e = blank_past (length text) a b (omega arith) s e

  pub blank_forward : {a b : ℕ} → Blank text a b → a ≤ b
  blank_forward none = omega arith
  blank_forward (line {a = a} q s) = omega (arith, look_next text a, blank_forward s)

  -- ── one token ──
  word_sound : (w : List ℕ) (a b : ℕ) → word_in text w a ≡ Ok b → (is_this text w (look_at text a) ≡ true) × ((look_at text a).next ≡ b)
  unfolding word_in
  word_sound w a b e = split_expected _ (look_at text a) b e

  word_ok : (w : List ℕ) (a : ℕ) → is_this text w (look_at text a) ≡ true → word_in text w a ≡ Ok (look_at text a).next
  unfolding word_in
  word_ok w a e = cond-true _ _ _ e

  pub line_sound : (a b : ℕ) → line_in text a ≡ Ok b → (is_line (look_at text a).token ≡ true) × ((look_at text a).next ≡ b)
  unfolding line_in
  line_sound a b e = split_expected _ (look_at text a) b e

  pub line_ok : (a : ℕ) → is_line (look_at text a).token ≡ true → line_in text a ≡ Ok (look_at text a).next
  unfolding line_in
  line_ok a e = cond-true _ _ _ e

  true_sound : (a b : ℕ) → true_in text a ≡ Ok b → (is_true (look_at text a).token ≡ true) × ((look_at text a).next ≡ b)
  unfolding true_in
  true_sound a b e = split_expected _ (look_at text a) b e

  true_ok : (a : ℕ) → is_true (look_at text a).token ≡ true → true_in text a ≡ Ok (look_at text a).next
  unfolding true_in
  true_ok a e = cond-true _ _ _ e

  last_sound :
      (a b : ℕ) → last_in text a ≡ Ok b →
      ((is_line (look_at text a).token || is_end (look_at text a).token) ≡ true) × ((look_at text a).next ≡ b)
  unfolding last_in
  last_sound a b e = split_expected _ (look_at text a) b e

  last_ok : (a : ℕ) → (is_line (look_at text a).token || is_end (look_at text a).token) ≡ true → last_in text a ≡ Ok (look_at text a).next
  unfolding last_in
  last_ok a e = cond-true _ _ _ e

  end_sound : (a b : ℕ) → end_in text a ≡ Ok b → (is_end (look_at text a).token ≡ true) × ((look_at text a).next ≡ b)
  unfolding end_in
  end_sound a b e = split_expected _ (look_at text a) b e

  end_ok : (a : ℕ) → is_end (look_at text a).token ≡ true → end_in text a ≡ Ok (look_at text a).next
  unfolding end_in
  end_ok a e = cond-true _ _ _ e

  -- ── words and headers ──
  word_then :
      (w : List ℕ) (ws : List (List ℕ)) (a b c : ℕ) → word_in text w a ≡ Ok b → Words text ws b c → Words text (w ∷ ws) a c
  word_then w ws a b c e s =
      let p = word_sound w a b e in
      word p.0 (subst (λ x. Words text ws x c) (sym p.1) s)

  pub first_word : (w : List ℕ) (ws : List (List ℕ)) (a b : ℕ) → Words text (w ∷ ws) a b → is_this text w (look_at text a) ≡ true
  first_word w ws a b (word e s) = e

  next_words : (w : List ℕ) (ws : List (List ℕ)) (a b : ℕ) → Words text (w ∷ ws) a b → Words text ws (look_at text a).next b
  next_words w ws a b (word e s) = s

  no_words : (a b : ℕ) → Words text [] a b → a ≡ b
  no_words a b done = refl

  this_not_line : (w : List ℕ) (a : ℕ) → is_this text w (look_at text a) ≡ true → is_line (look_at text a).token ≡ false
  this_not_line w a e = word_not_line (look_at text a).token (and_parts _ _ e).0

  pub header_sound : (v w : List ℕ) (a b : ℕ) → header_in text v w a ≡ Ok b → Header text (v ∷ w ∷ []) a b
  header_sound v w a b e =
      let p = split_then (word_in text v (blanks text a)) _ b e in
      let q = split_then (word_in text w p.0) _ b p.2 in
      let l = line_sound q.0 b q.2 in
      record {
        begin = blanks text a;
        end = q.0;
        blank = blanks_sound a;
        words = word_then v (w ∷ []) _ p.0 q.0 p.1 (word_then w [] p.0 q.0 q.0 q.1 done);
        line_end = l.0;
        next = sym l.1;
      }

  pub header_complete : (v w : List ℕ) (a b : ℕ) → Header text (v ∷ w ∷ []) a b → header_in text v w a ≡ Ok b
  header_complete v w a b h =
      let x = h.begin in
      let y = (look_at text x).next in
      let z = (look_at text y).next in
      let ws = next_words v (w ∷ []) x h.end h.words in
      let first = first_word v (w ∷ []) x h.end h.words in
      let second = first_word w [] y h.end ws in
      let ends : z ≡ h.end = no_words z h.end (next_words w [] y h.end ws) in
      ap (λ i. then_ok (word_in text v i) (λ j. then_ok (word_in text w j) (λ k. line_in text k)))
      (blanks_complete a x h.blank (this_not_line v x first))
      ∙ then_is (word_in text v x) _ y (word_ok v x first) ∙ then_is (word_in text w y) _ z (word_ok w y second) ∙ ap (line_in text) ends
      ∙ line_ok h.end h.line_end ∙ ap Ok (sym h.next)

  -- ── the third section ──
  last_blank :
      (e f g : ℕ) → last_in text e ≡ Ok f → end_in text (blanks text f) ≡ Ok g →
      (end : ℕ) × Blank text e end × (is_end (look_at text end).token ≡ true)
  last_blank e f g l x =
      let p = last_sound e f l in
      let q = end_sound (blanks text f) g x in
      ⊎_elim
      (λ is. (blanks text f, line is (subst (λ i. Blank text i (blanks text f)) (sym p.1) (blanks_sound f)), q.0))
      (λ is. (e, none, is))
      (or_cases _ _ p.0)

  pub third_sound : (a b : ℕ) → third_in text (blanks text a) ≡ Ok b → Third text a
  third_sound a b h =
      let begin = blanks text a in
      let p = split_then (word_in text (codes "Environment") begin) _ b h in
      let q = split_then (word_in text (codes "Global") p.0) _ b p.2 in
      let r = split_then (word_in text (codes "Constraints") q.0) _ b q.2 in
      let l = split_then (line_in text r.0) _ b r.2 in
      let u = split_then (true_in text (blanks text l.0)) _ b l.2 in
      let z = split_then (last_in text u.0) _ b u.2 in
      let w = last_blank u.0 z.0 b z.1 z.2 in
      let is = true_sound (blanks text l.0) u.0 u.1 in
      record {
        header = l.0;
        begin = blanks text l.0;
        end = w.0;
        title = record {
          begin = begin;
          end = r.0;
          blank = blanks_sound a;
          words =
              word_then _ _ begin p.0 r.0 p.1
              (word_then _ _ p.0 q.0 r.0 q.1 (word_then _ _ q.0 r.0 r.0 r.1 done));
          line_end = (line_sound r.0 l.0 l.1).0;
          next = sym (line_sound r.0 l.0 l.1).1;
        };
        blank = blanks_sound l.0;
        true_line = is.0;
        blanks = subst (λ i. Blank text i w.0) (sym is.1) w.1;
        ended = w.2;
      }

  blank_last :
      (e end : ℕ) → Blank text e end → is_end (look_at text end).token ≡ true →
      (x : ℕ) × (then_ok (last_in text e) (λ f. end_in text (blanks text f)) ≡ Ok x)
  blank_last e end none is =
      let f = (look_at text e).next in
      let still = end_stays e is in
      let here = blanks_complete f f none (end_not_line (look_at text f).token still) in (
        (look_at text f).next,
        then_is (last_in text e) _ f (last_ok e (or_right _ _ is)) ∙ ap (end_in text) here ∙ end_ok f still,
      )
  blank_last e end (line q s) is =
      let f = (look_at text e).next in
      let here = blanks_complete f end s (end_not_line (look_at text end).token is) in (
        (look_at text end).next,
        then_is (last_in text e) _ f (last_ok e (or_left _ _ q)) ∙ ap (end_in text) here ∙ end_ok end is,
      )

  -- where the third section's header begins, behind blank lines
  pub third_first : (a : ℕ) (h : Third text a) → blanks text a ≡ h.title.begin
  third_first a h =
      let x = h.title.begin in
      blanks_complete a x h.title.blank (this_not_line _ x (first_word _ _ x h.title.end h.title.words))

  pub third_complete : (a : ℕ) → Third text a → (x : ℕ) × (third_in text (blanks text a) ≡ Ok x)
  third_complete a h =
      let x = h.title.begin in
      let y = (look_at text x).next in
      let z = (look_at text y).next in
      let end = h.title.end in
      let ws = next_words _ _ x end h.title.words in
      let vs = next_words _ _ y end ws in
      let ends = no_words (look_at text z).next end (next_words _ _ z end vs) in
      let begin = blanks_complete h.header h.begin h.blank (true_not_line (look_at text h.begin).token h.true_line) in
      let l = blank_last (look_at text h.begin).next h.end h.blanks h.ended in (
        l.0,
        ap (third_in text) (third_first a h)
            ∙ then_is (word_in text (codes "Environment") x) _ y (word_ok _ x (first_word _ _ x end h.title.words))
            ∙ then_is (word_in text (codes "Global") y) _ z (word_ok _ y (first_word _ _ y end ws))
            ∙ then_is (word_in text (codes "Constraints") z) _ end (word_ok _ z (first_word _ _ z end vs) ∙ ap Ok ends)
            ∙ then_is (line_in text end) _ h.header (line_ok end h.title.line_end ∙ ap Ok (sym h.title.next))
            ∙ then_is (true_in text (blanks text h.header)) _ (look_at text h.begin).next (ap (true_in text) begin ∙ true_ok h.begin h.true_line)
            ∙ l.1,
      )

  -- there the reader sees the third section begin
  pub third_begins_lem : (a : ℕ) → Third text a → third_begins text (blanks text a) ≡ true
  unfolding third_begins
  third_begins_lem a h =
      let x = h.title.begin in
      let y = (look_at text x).next in
      let end = h.title.end in
      ap (third_begins text) (third_first a h)
      ∙ and_from _ _ (first_word _ _ x end h.title.words) (first_word _ _ y end (next_words _ _ x end h.title.words))
