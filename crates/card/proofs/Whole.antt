-- The file of a whole card: its length, its trailer, what is read from it, and how it is written list by list.
use Rattle.std.proofs.Common.{◌≡◌, ℕ, ◌+◌, ◌-◌, ◌*◌, ◌<◌, ◌≤◌, eqb, leb, List, [], ◌++◌, length, get_or, take, drop, Some, None, Option, Ok, Err, sym, refl, ap, ◌∙◌, arith, lit<}
use Rattle.std.specs.List.{flat_map}
use Rattle.std.proofs.lemmas.List.{append_assoc, length-append, take_at}
use Rattle.std.proofs.lemmas.Bool.{eq-eqb, le-leb, and_from, cond-true}
use Rattle.faults.specs.declared.Buffer.TheVariants.{Output}
use Rattle.faults.specs.declared.card.CardFault.TheVariants.{Short}
use Rattle.records.specs.Raw.{RawCard}
use Rattle.card.specs.Limits.{formulas_right, labels_right, nodes_right, moves_right, kind_right, wrong_count}
use Rattle.card.specs.Layout.{word_at, formula_at, node_at, move_at, entries, word_bytes, formula_bytes, node_bytes, move_bytes}
use Rattle.card.specs.Trailer.{labels_from, nodes_from, moves_from, field, wrong_field, card_in, read_card, read_by, read_file, refused_field}
use Rattle.card.specs.Written.{trailer_of, card_bytes, byte_count, written_by, written, put_at}
use Rattle.card.proofs.Puts.{put_more, length_put}
use Rattle.card.proofs.ReadBack.{word_back, formula_back, node_back, move_back, word_at_lem, joined_length, entries_back}
use Rattle.card.proofs.ReadBack.{Right, count_right, bounded, none_unless}

-- where nothing was refused, no field is wrong
pub not_refused : (o : Option ℕ) → Ok tt ≡ refused_field o → o ≡ None
not_refused None e = refl
not_refused (Some f) e = let z : ◌≡◌ {A = ℕ} 0 1 = cc in absurd (omega arith)

module _ (c : RawCard) where
  abbrev F : List ℕ
  F = flat_map formula_bytes c.formulas

  abbrev L : List ℕ
  L = flat_map word_bytes c.labels

  abbrev N : List ℕ
  N = flat_map node_bytes c.nodes

  abbrev M : List ℕ
  M = flat_map move_bytes c.moves

  abbrev E : List ℕ
  E = flat_map word_bytes (trailer_of c)

  pub length_f : length F ≡ 10 * length c.formulas
  length_f = joined_length formula_bytes 10 (λ f. refl) c.formulas

  pub length_l : length L ≡ 2 * length c.labels
  length_l = joined_length word_bytes 2 (λ n. refl) c.labels

  pub length_n : length N ≡ 8 * length c.nodes
  length_n = joined_length node_bytes 8 (λ r. refl) c.nodes

  pub length_m : length M ≡ 10 * length c.moves
  length_m = joined_length move_bytes 10 (λ r. refl) c.moves

  abbrev body : List ℕ
  body = ((F ++ L) ++ N) ++ M

  length_body : length body + 20 ≡ byte_count c
  length_body =
      omega (arith, length-append ((F ++ L) ++ N) M, length-append (F ++ L) N, length-append F L, length_f, length_l, length_n, length_m)

  -- the four lists before the trailer, grouped from the left
  from_left : card_bytes c ≡ body ++ E
  from_left =
      sym (append_assoc F L (N ++ (M ++ E))) ∙ sym (append_assoc (F ++ L) N (M ++ E)) ∙ sym (append_assoc ((F ++ L) ++ N) M E)

  pub card_bytes_length : length (card_bytes c) ≡ byte_count c
  card_bytes_length = ap length from_left ∙ length-append body E ∙ length_body

  -- ── reading it back ──
  fields_back : (i : ℕ) → i < 10 → field (card_bytes c) i ≡ get_or (trailer_of c) i 0
  fields_back i h =
      let p : length body + 2 * i ≡ length (card_bytes c) - 20 + 2 * i = omega (arith, card_bytes_length, length_body) in
      ap (λ bs. word_at bs (length (card_bytes c) - 20 + 2 * i)) from_left ∙ word_at_lem body (trailer_of c) i _ h p

  card_back : card_in (card_bytes c) c.kind (length c.formulas) (length c.labels) (length c.nodes) (length c.moves) ≡ c
  card_back =
      let n_left : card_bytes c ≡ (F ++ L) ++ (N ++ (M ++ E)) = sym (append_assoc F L (N ++ (M ++ E))) in
      let m_left : card_bytes c ≡ ((F ++ L) ++ N) ++ (M ++ E) = n_left ∙ sym (append_assoc (F ++ L) N (M ++ E)) in
      let fs = entries_back formula_bytes 10 (λ f. refl) formula_at formula_back [] c.formulas (L ++ (N ++ (M ++ E))) 0 refl in
      let ls = entries_back word_bytes 2 (λ n. refl) word_at word_back F c.labels (N ++ (M ++ E)) (labels_from (length c.formulas)) length_f in
      let n_at : length (F ++ L) ≡ nodes_from (length c.formulas) (length c.labels) = omega (arith, length-append F L, length_f, length_l) in
      let ns =
      ap (λ bs. entries (node_at bs) 8 (nodes_from (length c.formulas) (length c.labels)) (length c.nodes)) n_left
      ∙ entries_back node_bytes 8 (λ r. refl) node_at node_back (F ++ L) c.nodes (M ++ E) _ n_at in
      let m_at : length ((F ++ L) ++ N) ≡ moves_from (length c.formulas) (length c.labels) (length c.nodes) =
      omega (arith, length-append (F ++ L) N, length-append F L, length_f, length_l, length_n) in
      let ms =
      ap (λ bs. entries (move_at bs) 10 (moves_from (length c.formulas) (length c.labels) (length c.nodes)) (length c.moves)) m_left
      ∙ entries_back move_bytes 10 (λ r. refl) move_at move_back ((F ++ L) ++ N) c.moves E _ m_at in
      λ i. record { kind = c.kind; formulas = fs i; labels = ls i; nodes = ns i; moves = ms i }

  read_card_back : read_card (card_bytes c) ≡ c
  read_card_back =
      let k = fields_back 8 (lit< tt) in
      let f = fields_back 1 (lit< tt) in
      let l = fields_back 3 (lit< tt) in
      let n = fields_back 5 (lit< tt) in
      let m = fields_back 7 (lit< tt) in
      (λ i. card_in (card_bytes c) (k i) (f i) (l i) (n i) (m i)) ∙ card_back

  wrong_field_back : Right c → wrong_field (card_bytes c) ≡ None
  wrong_field_back r =
      let bs = card_bytes c in
      let b = bounded c r in
      let size = card_bytes_length in
      let f0 : field bs 0 ≡ 0 = fields_back 0 (lit< tt) in
      let f1 : field bs 1 ≡ length c.formulas = fields_back 1 (lit< tt) in
      let f2 : field bs 2 ≡ labels_from (length c.formulas) = fields_back 2 (lit< tt) in
      let f3 : field bs 3 ≡ length c.labels = fields_back 3 (lit< tt) in
      let f4 : field bs 4 ≡ nodes_from (length c.formulas) (length c.labels) = fields_back 4 (lit< tt) in
      let f5 : field bs 5 ≡ length c.nodes = fields_back 5 (lit< tt) in
      let f6 : field bs 6 ≡ moves_from (length c.formulas) (length c.labels) (length c.nodes) = fields_back 6 (lit< tt) in
      let f7 : field bs 7 ≡ length c.moves = fields_back 7 (lit< tt) in
      let f8 : field bs 8 ≡ c.kind = fields_back 8 (lit< tt) in
      let f9 : field bs 9 ≡ 20 = fields_back 9 (lit< tt) in
      let at4 = nodes_from (field bs 1) (field bs 3) in
      let at6 = moves_from (field bs 1) (field bs 3) (field bs 5) in
      let end7 = at6 + 10 * field bs 7 + 20 in
      none_unless (leb 20 (length bs)) 10 _ (le-leb 20 (length bs) (omega arith))
      (none_unless (leb (length bs) 47124) 11 _ (le-leb (length bs) 47124 (omega arith))
      (none_unless (eqb (field bs 0) 0) 0 _ (eq-eqb (field bs 0) 0 f0)
      (none_unless (formulas_right (field bs 1)) 1 _ (ap formulas_right f1 ∙ r.formulas)
      (none_unless (eqb (field bs 2) (labels_from (field bs 1))) 2 _ (eq-eqb (field bs 2) (labels_from (field bs 1)) (omega arith))
      (none_unless (labels_right (field bs 3)) 3 _ (ap labels_right f3 ∙ r.labels)
      (none_unless (eqb (field bs 4) at4) 4 _ (eq-eqb (field bs 4) at4 (omega arith))
      (none_unless (nodes_right (field bs 5)) 5 _ (ap nodes_right f5 ∙ r.nodes)
      (none_unless (eqb (field bs 6) at6) 6 _ (eq-eqb (field bs 6) at6 (omega arith))
      (none_unless _ 7 _ (and_from (moves_right (field bs 7)) (eqb end7 (length bs)) (ap moves_right f7 ∙ r.moves) (eq-eqb end7 (length bs) (omega arith)))
      (none_unless (kind_right (field bs 8)) 8 _ (ap kind_right f8 ∙ r.kind)
      (none_unless (eqb (field bs 9) 20) 9 None (eq-eqb (field bs 9) 20 f9) refl)))))))))))

  pub read_file_back : wrong_count c ≡ None → read_file (card_bytes c) ≡ Ok c
  read_file_back h = ap (read_by (read_card (card_bytes c))) (wrong_field_back (count_right c h)) ∙ ap Ok read_card_back

  -- ── writing it ──
  -- the five parts put one behind the other over an output give the whole file over it
  module _ (o0 o1 o2 o3 o4 o5 : List ℕ) (q1 q2 q3 q4 : ℕ) (room : byte_count c ≤ length o0)
      (e1 : q1 ≡ labels_from (length c.formulas))
      (e2 : q2 ≡ nodes_from (length c.formulas) (length c.labels))
      (e3 : q3 ≡ moves_from (length c.formulas) (length c.labels) (length c.nodes))
      (e4 : q4 + 20 ≡ byte_count c) where
    pub card_put : o1 ≡ put_at o0 0 F → o2 ≡ put_at o1 q1 L → o3 ≡ put_at o2 q2 N → o4 ≡ put_at o3 q3 M → o5 ≡ put_at o4 q4 E
        → o5 ≡ card_bytes c ++ drop (byte_count c) o0
    card_put p1 p2 p3 p4 p5 =
        let l1 : length o1 ≡ length o0 = ap length p1 ∙ length_put o0 0 F (omega (arith, length_f)) in
        let l2 : length o2 ≡ length o0 = ap length p2 ∙ length_put o1 q1 L (omega (arith, length_l)) ∙ l1 in
        let l3 : length o3 ≡ length o0 = ap length p3 ∙ length_put o2 q2 N (omega (arith, length_n)) ∙ l2 in
        p5 ∙ ap (λ o. put_at o q4 E) p4 ∙ put_more o3 q3 q4 M E (omega arith) (omega (arith, length_m))
        ∙ ap (λ o. put_at o q3 (M ++ E)) p3 ∙ put_more o2 q2 q3 N (M ++ E) (omega arith) (omega (arith, length_n))
        ∙ ap (λ o. put_at o q2 (N ++ (M ++ E))) p2 ∙ put_more o1 q1 q2 L (N ++ (M ++ E)) (omega arith) (omega (arith, length_l))
        ∙ ap (λ o. put_at o q1 (L ++ (N ++ (M ++ E)))) p1 ∙ put_more o0 0 q1 F (L ++ (N ++ (M ++ E))) (omega arith) (omega (arith, length_f))
        ∙ ap (λ n. card_bytes c ++ drop n o0) card_bytes_length

  -- what was written opens as the card, whatever stands behind it
  pub card_opens : (out tail : List ℕ) (n : ℕ) → wrong_count c ≡ None → n ≡ byte_count c → out ≡ card_bytes c ++ tail → read_file (take n out) ≡ Ok c
  card_opens out tail n h e is =
      ap (λ o. read_file (take n o)) is ∙ ap read_file (take_at (card_bytes c) tail n (card_bytes_length ∙ sym e)) ∙ read_file_back h

  pub written_ok : (n room : ℕ) → wrong_count c ≡ None → n ≡ byte_count c → byte_count c ≤ room → Ok n ≡ written c room
  written_ok n room h e fits =
      ap Ok e ∙ sym (ap (written_by (byte_count c)) h)
      ∙ sym (cond-true (leb (byte_count c) room) (written_by (byte_count c) (wrong_count c)) (Err (Short Output)) (le-leb (byte_count c) room fits))
