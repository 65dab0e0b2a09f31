-- The walk tells the parts of the line.
use Rattle.std.proofs.Common.{◌≡◌, ℕ, ◌+◌, Bool, true, false, List, [], ◌∷◌, ◌++◌, ◌&&◌, ◌==◌, not, Option, Some, None, option_map, codes, refl, sym, ap, subst, ◌∙◌, append-nil, take, drop, suc, arith}
use Rattle.std.proofs.lemmas.Slice.Eq.{bytes_eq-Decides}
use Rattle.std.specs.List.{list_any, before_first, after_first, prefix_len}
use Rattle.std.specs.Str.{IsUtf8, bytes_eq}
use Rattle.clap.specs.Walk.{Text, Walk, arg_by_id, arg_by_long, idle, settled, walked}
use Rattle.clap.specs.Faults.{turn_fault, walk_fault}
use Rattle.clap.specs.Kinds.{Kinds, or_else}
use Rattle.cs_model.specs.CommandLine.{Part, Positional, Given, stats_word, Free, Waiting as WaitingFor, Behind, is_option, is_plain, parts_from}
use Rattle.cs_cli.proofs.Rules.{Names, by_place_1, by_place_2, by_place_3, flag, id_1, id_2, long_flag, names, no, option_of, rules, shape}
use Rattle.cs_cli.proofs.Rules as named
use Rattle.cs_cli.proofs.Uses.{Uses, clean, fault_flag, fault_valued, used_flag, used_valued}
use Rattle.cs_cli.proofs.Walking.{IsOne, Seen, Told, at, both, clashes, dead, end_of, held_at, none, one, passes, rest, rest-step, settle_clean, settled_at, step, uses, waits}
use Rattle.cs_cli.proofs.Turns.{IsOption, Looks, dashes, left_only, long_word, looks, placed, plain_word, react_clean, reacted_at, short_fault, short_word, stuck_behind, stuck_long}

pub record Tells (words : List Text) : Type 0 where
  pub free : (us p : Uses) (n : Seen) → IsOne p → Told (at us p n false) words us p n (parts_from Free words)
  pub behind : (us p : Uses) (n : Seen) → IsOne p → Told (at us p n true) words us p n (parts_from Behind words)
  pub waiting : (us : Uses) (name : Text) (n : Seen) → IsOption name
      → Told (waits us (45 ∷ 45 ∷ name) n false) words us [] n (parts_from (WaitingFor (45 ∷ 45 ∷ name)) words)

-- ---- no word more

ended : (us p : Uses) (n : Seen) (trailing : Bool) → IsOne p → Told (at us p n trailing) [] us p n (Some [])
unfolding walk_fault
ended us p n trailing h = record {
  clean = settle_clean us p h ∙ ap (λ x. not (clashes us x)) (sym (append-nil p));
  rows = λ parts is passed. rows parts is (calm (clashes us p) refl (passed_by passed));
} where
  passed_by : passes us p n (Some []) ≡ true → not (clashes us p) ≡ true
  passed_by h = ap (λ x. not (clashes us x)) (sym (append-nil p)) ∙ h

  calm : (t : Bool) → clashes us p ≡ t → not (clashes us p) ≡ true → clashes us p ≡ false
  calm false e h = e
  calm true e h = absurd (no (sym h ∙ ap not e))

  none_left : (parts : List Part) → Some [] ≡ Some parts → [] ≡ parts
  none_left parts is = ap or_none is where
    or_none : Option (List Part) → List Part
    or_none None = []
    or_none (Some y) = y

  rows : (parts : List Part) → Some [] ≡ Some parts → clashes us p ≡ false
      → (settled rules (end_of (at us p n trailing) []).held).rows ≡ Rattle.cs_cli.proofs.Uses.rows_by (us ++ (p ++ uses n parts))
  rows parts is e =
      ap (λ x. x.rows) (settled_at us p h e) ∙ ap (λ x. Rattle.cs_cli.proofs.Uses.rows_by (us ++ x)) (sym (append-nil p))
      ∙ ap (λ x. Rattle.cs_cli.proofs.Uses.rows_by (us ++ (p ++ uses n x))) (none_left parts is)

ended_waiting : (us : Uses) (name : Text) (n : Seen) → IsOption name → Told (waits us (45 ∷ 45 ∷ name) n false) [] us [] n None
unfolding walk_fault
ended_waiting us name n h = record {
  clean = rw (h.0) refl;
  rows = λ parts is passed. absurd (no (sym passed));
}

-- ---- one word more

-- a turn that settles nothing
same_parts : (x : Option (List Part)) → x ≡ option_map (λ others. [] ++ others) x
same_parts None = refl
same_parts (Some parts) = refl

quiet : (w after : Walk) (word : Text) (words : List Text) (us p : Uses) (n : Seen) (o : Option (List Part))
    → clean (turn_fault shape [] w word) ≡ true → walked rules [] w word ≡ after → Told after words us p n o → Told w (word ∷ words) us p n o
quiet w after word words us p n o turn next told = record {
  clean = rest-step w word words ∙ ap (λ t. t && clean (rest (walked rules [] w word) words)) turn ∙ ap (λ x. clean (rest x words)) next ∙ told.clean;
  rows = λ parts is passed. ap (λ x. (settled rules (end_of x words).held).rows) next ∙ told.rows parts is passed;
}

-- a third word by place
third : (us p : Uses) (x : Option (List Part)) (word : Text) → passes us p both (option_map (λ others. (Positional word ∷ []) ++ others) x) ≡ false
third us p None word = refl
third us p (Some others) word = refl

module _ (word : Text) (words : List Text) (t : Tells words) where
  behind_turn : (us p : Uses) (n : Seen) → IsOne p → Told (at us p n true) (word ∷ words) us p n (parts_from Behind (word ∷ words))
  behind_turn us p none h = placed us p none one true word words (codes "COMMAND") None true (Some 1) (parts_from Behind words) h refl refl by_place_1 refl (λ o. refl) (λ o. refl)
      (t.behind (us ++ (p ++ [])) ((codes "COMMAND", word) ∷ []) one (None, true, Some 1, id_1))
  behind_turn us p one h = placed us p one both true word words (codes "FILE") None true (Some 2) (parts_from Behind words) h refl refl by_place_2 refl (λ o. refl) (λ o. refl)
      (t.behind (us ++ (p ++ [])) ((codes "FILE", word) ∷ []) both (None, true, Some 2, id_2))
  behind_turn us p both h = dead (at us p both true) word words us p both (parts_from Behind (word ∷ words)) (rw by_place_3 refl) (third us p (parts_from Behind words) word)

  plain_turn : (us p : Uses) (n : Seen) → IsOne p → is_plain word ≡ true → bytes_eq word (45 ∷ 45 ∷ []) ≡ false → is_option word ≡ false
      → Rattle.clap.specs.Lexer.long_of word ≡ None → Rattle.clap.specs.Lexer.short_of word ≡ None → Told (at us p n false) (word ∷ words) us p n (parts_from Free (word ∷ words))
  plain_turn us p none h a b c d e = subst (Told (at us p none false) (word ∷ words) us p none) (sym (rw (a, b, c) refl))
      (placed us p none one false word words (codes "COMMAND") None true (Some 1) (parts_from Free words) h (rw (b, d, e) refl) (rw (b, d, e) refl) by_place_1 refl (λ o. refl) (λ o. refl)
      (t.free (us ++ (p ++ [])) ((codes "COMMAND", word) ∷ []) one (None, true, Some 1, id_1)))
  plain_turn us p one h a b c d e = subst (Told (at us p one false) (word ∷ words) us p one) (sym (rw (a, b, c) refl))
      (placed us p one both false word words (codes "FILE") None true (Some 2) (parts_from Free words) h (rw (b, d, e) refl) (rw (b, d, e) refl) by_place_2 refl (λ o. refl) (λ o. refl)
      (t.free (us ++ (p ++ [])) ((codes "FILE", word) ∷ []) both (None, true, Some 2, id_2)))
  plain_turn us p both h a b c d e = subst (Told (at us p both false) (word ∷ words) us p both) (sym (rw (a, b, c) refl))
      (dead (at us p both false) word words us p both (option_map (λ others. (Positional word ∷ []) ++ others) (parts_from Free words)) (rw (b, d, e, by_place_3) refl)
      (third us p (parts_from Free words) word))

  -- ---- an option waits

  same_id : (id : Text) → bytes_eq id id ≡ true
  same_id id = (bytes_eq-Decides id id).1 refl

  valued_turn : (us : Uses) (name : Text) (n : Seen) → IsOption name → is_plain word ≡ true → bytes_eq word (45 ∷ 45 ∷ []) ≡ false
      → Rattle.clap.specs.Lexer.long_of word ≡ None → Rattle.clap.specs.Lexer.short_of word ≡ None
      → Told (waits us (45 ∷ 45 ∷ name) n false) (word ∷ words) us [] n (parts_from (WaitingFor (45 ∷ 45 ∷ name)) (word ∷ words))
  unfolding walked
  valued_turn us name n h a b d e = subst (Told (waits us (45 ∷ 45 ∷ name) n false) (word ∷ words) us [] n) (sym (rw a refl))
      (step (waits us (45 ∷ 45 ∷ name) n false) (at (us ++ []) ((45 ∷ 45 ∷ name, word) ∷ []) n false) word words us [] [] ((45 ∷ 45 ∷ name, word) ∷ []) n n (Given (45 ∷ 45 ∷ name) word ∷ []) (parts_from Free words)
      (rw (b, d, e) refl)
      (λ calm. rw (b, d, e, h.0, same_id name, append-nil us) refl)
      (λ others. rw (h.1) refl) (λ others. refl)
      (t.free (us ++ []) ((45 ∷ 45 ∷ name, word) ∷ []) n (Some name, false, None, h.0)))

  -- what waits gets no value
  refused_turn : (us : Uses) (name : Text) (n : Seen) → clean (turn_fault shape [] (waits us (45 ∷ 45 ∷ name) n false) word) ≡ false
      → parts_from (WaitingFor (45 ∷ 45 ∷ name)) (word ∷ words) ≡ None
      → Told (waits us (45 ∷ 45 ∷ name) n false) (word ∷ words) us [] n (parts_from (WaitingFor (45 ∷ 45 ∷ name)) (word ∷ words))
  refused_turn us name n turn is = subst (Told (waits us (45 ∷ 45 ∷ name) n false) (word ∷ words) us [] n) (sym is)
      (dead (waits us (45 ∷ 45 ∷ name) n false) word words us [] n None turn refl)

  dashes_waiting : (us : Uses) (name : Text) (n : Seen) → IsOption name → word ≡ 45 ∷ 45 ∷ []
      → Told (waits us (45 ∷ 45 ∷ name) n false) (word ∷ words) us [] n (parts_from (WaitingFor (45 ∷ 45 ∷ name)) (word ∷ words))
  unfolding walked
  dashes_waiting us name n h is =
      let refused : parts_from (WaitingFor (45 ∷ 45 ∷ name)) (word ∷ words) ≡ None = rw is refl in
      subst (Told (waits us (45 ∷ 45 ∷ name) n false) (word ∷ words) us [] n) (sym refused) (record {
        clean = rest-step (waits us (45 ∷ 45 ∷ name) n false) word words
            ∙ rw is (stuck_behind us name n words h);
        rows = λ parts some passed. absurd (no (sym passed));
      })

  long_waiting : (us : Uses) (name : Text) (n : Seen) (c : ℕ) (r : Text) → IsOption name → word ≡ 45 ∷ 45 ∷ c ∷ r
      → Told (waits us (45 ∷ 45 ∷ name) n false) (word ∷ words) us [] n (parts_from (WaitingFor (45 ∷ 45 ∷ name)) (word ∷ words))
  long_waiting us name n c r h is =
      let p = Rattle.clap.specs.Lexer.name_and_value (c ∷ r) in
      refused_turn us name n (rw is (left_only _ _ (stuck_long us name p.0 p.1 h))) (rw is refl)

  short_waiting : (us : Uses) (name : Text) (n : Seen) (c : ℕ) (r : Text) → IsUtf8 word → word ≡ 45 ∷ c ∷ r → (c == 45) ≡ false
      → bytes_eq word (45 ∷ 45 ∷ []) ≡ false → Rattle.clap.specs.Lexer.long_of word ≡ None → Rattle.clap.specs.Lexer.short_of word ≡ Some (c ∷ r)
      → Told (waits us (45 ∷ 45 ∷ name) n false) (word ∷ words) us [] n (parts_from (WaitingFor (45 ∷ 45 ∷ name)) (word ∷ words))
  short_waiting us name n c r utf8 is other b d e =
      refused_turn us name n (rw (b, d, e) (left_only _ _ (short_fault c r (Rattle.cs_cli.proofs.Turns.stuck us (45 ∷ 45 ∷ name)) (subst IsUtf8 is utf8) refl))) (rw is refl)

  waiting_turn : (us : Uses) (name : Text) (n : Seen) → IsUtf8 word → IsOption name
      → Told (waits us (45 ∷ 45 ∷ name) n false) (word ∷ words) us [] n (parts_from (WaitingFor (45 ∷ 45 ∷ name)) (word ∷ words))
  waiting_turn us name n utf8 h = go (looks word) where
    go : Looks word → Told (waits us (45 ∷ 45 ∷ name) n false) (word ∷ words) us [] n (parts_from (WaitingFor (45 ∷ 45 ∷ name)) (word ∷ words))
    go (plain_word a b c d e) = valued_turn us name n h a b d e
    go (dashes is) = dashes_waiting us name n h is
    go (long_word c r is) = long_waiting us name n c r h is
    go (short_word c r is other b d e) = short_waiting us name n c r utf8 is other b d e

-- ---- options and the flag

only_left : (a : Kinds) → clean (or_else a []) ≡ clean a
only_left [] = refl
only_left (k ∷ ks) = refl

and_false : (a : Bool) → (a && false) ≡ false
and_false true = refl
and_false false = refl

-- what stands before a first equals sign is all, where there is none
take_one : (k : ℕ) (x : ℕ) (xs : Text) → take (1 + k) (x ∷ xs) ≡ x ∷ take k xs
take_one k x xs = let one_more : 1 + k ≡ suc k = omega arith in rw one_more refl

drop_one : (k : ℕ) (x : ℕ) (xs : Text) → drop ((1 + k) + 1) (x ∷ xs) ≡ drop (k + 1) xs
drop_one k x xs = let one_more : (1 + k) + 1 ≡ suc (k + 1) = omega arith in rw one_more refl

all_before : (text : Text) → list_any (λ b. b == 61) text ≡ false → before_first (λ b. b == 61) text ≡ text
all_before [] h = refl
all_before (x ∷ xs) h = go (x == 61) refl h (all_before xs) where
  go : (t : Bool) → (x == 61) ≡ t → list_any (λ b. b == 61) (x ∷ xs) ≡ false → (list_any (λ b. b == 61) xs ≡ false → before_first (λ b. b == 61) xs ≡ xs) → before_first (λ b. b == 61) (x ∷ xs) ≡ x ∷ xs
  go true e h k = absurd (no (sym (rw e refl) ∙ h))
  go false e h k =
      let lacks : list_any (λ b. b == 61) xs ≡ false = sym (rw e refl) ∙ h in
      rw e (take_one (prefix_len (λ b. not (b == 61)) xs) x xs ∙ ap (λ y. x ∷ y) (k lacks))

module _ (c : ℕ) (r : Text) (words : List Text) (t : Tells words) where
  text : Text
  text = c ∷ r

  before : Text
  before = before_first (λ b. b == 61) (c ∷ r)

  after : Text
  after = after_first (λ b. b == 61) (c ∷ r)

  before_dashes : before_first (λ b. b == 61) (45 ∷ 45 ∷ c ∷ r) ≡ 45 ∷ 45 ∷ before
  unfolding before
  before_dashes = take_one (1 + prefix_len (λ b. not (b == 61)) (c ∷ r)) 45 (45 ∷ c ∷ r) ∙ ap (λ y. 45 ∷ y) (take_one (prefix_len (λ b. not (b == 61)) (c ∷ r)) 45 (c ∷ r))

  after_dashes : after_first (λ b. b == 61) (45 ∷ 45 ∷ c ∷ r) ≡ after
  unfolding after
  after_dashes = drop_one (1 + prefix_len (λ b. not (b == 61)) (c ∷ r)) 45 (45 ∷ c ∷ r) ∙ drop_one (prefix_len (λ b. not (b == 61)) (c ∷ r)) 45 (c ∷ r)

  told_as : (us p : Uses) (n : Seen) (o : Option (List Part)) → parts_from Free ((45 ∷ 45 ∷ c ∷ r) ∷ words) ≡ o
      → Told (at us p n false) ((45 ∷ 45 ∷ c ∷ r) ∷ words) us p n o → Told (at us p n false) ((45 ∷ 45 ∷ c ∷ r) ∷ words) us p n (parts_from Free ((45 ∷ 45 ∷ c ∷ r) ∷ words))
  told_as us p n o is h = subst (Told (at us p n false) ((45 ∷ 45 ∷ c ∷ r) ∷ words) us p n) (sym is) h

  assigned_turn : (us p : Uses) (n : Seen) → IsOne p → list_any (λ b. b == 61) (c ∷ r) ≡ true → is_option (45 ∷ 45 ∷ c ∷ r) ≡ false → bytes_eq (45 ∷ 45 ∷ c ∷ r) stats_word ≡ false
      → arg_by_long rules before ≡ Some (option_of before) → is_option (45 ∷ 45 ∷ before) ≡ true → bytes_eq (45 ∷ 45 ∷ before) stats_word ≡ false
      → Told (at us p n false) ((45 ∷ 45 ∷ c ∷ r) ∷ words) us p n (parts_from Free ((45 ∷ 45 ∷ c ∷ r) ∷ words))
  unfolding before after walked
  assigned_turn us p n h e not_option not_stats found known other = told_as us p n _ (rw (not_option, not_stats, e, before_dashes, after_dashes, known) refl)
      (step (at us p n false) (at (us ++ (p ++ (45 ∷ 45 ∷ before, after) ∷ [])) [] n false) (45 ∷ 45 ∷ c ∷ r) words us p ((45 ∷ 45 ∷ before, after) ∷ []) [] n n (Given (45 ∷ 45 ∷ before) after ∷ []) (parts_from Free words)
      (rw (e, found) (only_left _ ∙ react_clean us p (option_of before) (after ∷ []) (45 ∷ 45 ∷ before) after h (fault_valued (45 ∷ 45 ∷ before) (Some before) false None after)))
      (λ calm. rw (e, found) (ap (λ x. record (at us p n false) { held = x; waiting = idle }) (reacted_at us p (option_of before) (after ∷ []) (45 ∷ 45 ∷ before) after h (used_valued (45 ∷ 45 ∷ before) (Some before) false None after) calm)))
      (λ others. rw other refl) (λ others. refl)
      (t.free (us ++ (p ++ (45 ∷ 45 ∷ before, after) ∷ [])) [] n tt))

  refused_long : (us p : Uses) (n : Seen) → clean (turn_fault shape [] (at us p n false) (45 ∷ 45 ∷ c ∷ r)) ≡ false → parts_from Free ((45 ∷ 45 ∷ c ∷ r) ∷ words) ≡ None
      → Told (at us p n false) ((45 ∷ 45 ∷ c ∷ r) ∷ words) us p n (parts_from Free ((45 ∷ 45 ∷ c ∷ r) ∷ words))
  refused_long us p n turn is = told_as us p n None is (dead (at us p n false) (45 ∷ 45 ∷ c ∷ r) words us p n None turn refl)

  -- with an equals sign
  assigned_long : (us p : Uses) (n : Seen) → IsOne p → list_any (λ b. b == 61) (c ∷ r) ≡ true → Names (c ∷ r) → Names before
      → Told (at us p n false) ((45 ∷ 45 ∷ c ∷ r) ∷ words) us p n (parts_from Free ((45 ∷ 45 ∷ c ∷ r) ∷ words))
  unfolding before
  assigned_long us p n h e (named.option _ _ _ _ lacks) b = absurd (no (sym e ∙ lacks))
  assigned_long us p n h e (named.stats is) b = absurd (no (sym e ∙ ap (list_any (λ x. x == 61)) is))
  assigned_long us p n h e (named.other _ not_option not_stats) (named.option found id known other lacks) = assigned_turn us p n h e not_option not_stats found known other
  assigned_long us p n h e (named.other _ not_option not_stats) (named.stats is) =
      let found : arg_by_long rules before ≡ Some flag = ap (arg_by_long rules) is ∙ long_flag in
      let unknown : is_option (45 ∷ 45 ∷ before) ≡ false = ap (λ x. is_option (45 ∷ 45 ∷ x)) is in
      refused_long us p n (rw (e, found) refl) (rw (not_option, not_stats, e, before_dashes, unknown) refl)
  assigned_long us p n h e (named.other _ not_option not_stats) (named.other found unknown _) = refused_long us p n (rw (e, found) refl) (rw (not_option, not_stats, e, before_dashes, unknown) refl)

  -- and without one
  waiting_long : (us p : Uses) (n : Seen) → IsOne p → list_any (λ b. b == 61) (c ∷ r) ≡ false
      → arg_by_long rules (c ∷ r) ≡ Some (option_of (c ∷ r)) → arg_by_id rules (45 ∷ 45 ∷ c ∷ r) ≡ Some (option_of (c ∷ r)) → is_option (45 ∷ 45 ∷ c ∷ r) ≡ true → bytes_eq (45 ∷ 45 ∷ c ∷ r) stats_word ≡ false
      → Told (at us p n false) ((45 ∷ 45 ∷ c ∷ r) ∷ words) us p n (parts_from Free ((45 ∷ 45 ∷ c ∷ r) ∷ words))
  unfolding walked
  waiting_long us p n h e found id known other =
      let same = all_before (c ∷ r) e in
      told_as us p n _ (rw known refl)
      (step (at us p n false) (waits (us ++ (p ++ [])) (45 ∷ 45 ∷ c ∷ r) n false) (45 ∷ 45 ∷ c ∷ r) words us p [] [] n n [] (parts_from (WaitingFor (45 ∷ 45 ∷ c ∷ r)) words)
      (rw (same, e, found) (only_left _ ∙ settle_clean us p h ∙ ap (λ x. not (clashes us x)) (sym (append-nil p))))
      (λ calm. rw (same, e, found) (ap (λ x. record (waits us (45 ∷ 45 ∷ c ∷ r) n false) { held = record x { pending = Some (45 ∷ 45 ∷ c ∷ r, []) } })
      (settled_at us p h (ap (clashes us) (sym (append-nil p)) ∙ calm)) ∙ ap (λ x. waits (us ++ x) (45 ∷ 45 ∷ c ∷ r) n false) (sym (append-nil p))))
      (λ others. refl) (λ others. refl)
      (t.waiting (us ++ (p ++ [])) (c ∷ r) n (id, other)))

  flag_long : (us p : Uses) (n : Seen) → IsOne p → list_any (λ b. b == 61) (c ∷ r) ≡ false → (c ∷ r) ≡ codes "stats"
      → Told (at us p n false) ((45 ∷ 45 ∷ c ∷ r) ∷ words) us p n (parts_from Free ((45 ∷ 45 ∷ c ∷ r) ∷ words))
  unfolding walked
  flag_long us p n h e is =
      let same = all_before (c ∷ r) e in
      let found : arg_by_long rules (c ∷ r) ≡ Some flag = ap (arg_by_long rules) is ∙ long_flag in
      let not_option : is_option (45 ∷ 45 ∷ c ∷ r) ≡ false = ap (λ x. is_option (45 ∷ 45 ∷ x)) is in
      let is_flag : bytes_eq (45 ∷ 45 ∷ c ∷ r) stats_word ≡ true = ap (λ x. bytes_eq (45 ∷ 45 ∷ x) stats_word) is in
      told_as us p n _ (rw (not_option, is_flag) refl)
      (step (at us p n false) (at (us ++ (p ++ (stats_word, codes "true") ∷ [])) [] n false) (45 ∷ 45 ∷ c ∷ r) words us p ((stats_word, codes "true") ∷ []) [] n n (Given stats_word [] ∷ []) (parts_from Free words)
      (rw (same, e, found) (only_left _ ∙ react_clean us p flag [] stats_word (codes "true") h fault_flag))
      (λ calm. rw (same, e, found) (ap (λ x. record (at us p n false) { held = x; waiting = idle }) (reacted_at us p flag [] stats_word (codes "true") h used_flag calm)))
      (λ others. refl) (λ others. refl)
      (t.free (us ++ (p ++ (stats_word, codes "true") ∷ [])) [] n tt))

  bare_long : (us p : Uses) (n : Seen) → IsOne p → list_any (λ b. b == 61) (c ∷ r) ≡ false → Names (c ∷ r)
      → Told (at us p n false) ((45 ∷ 45 ∷ c ∷ r) ∷ words) us p n (parts_from Free ((45 ∷ 45 ∷ c ∷ r) ∷ words))
  bare_long us p n h e (named.option found id known other lacks) = waiting_long us p n h e found id known other
  bare_long us p n h e (named.stats is) = flag_long us p n h e is
  bare_long us p n h e (named.other found not_option not_stats) =
      let same = all_before (c ∷ r) e in refused_long us p n (rw (same, e, found) refl) (rw (not_option, not_stats, e) refl)

  long_turn : (us p : Uses) (n : Seen) → IsOne p → Told (at us p n false) ((45 ∷ 45 ∷ c ∷ r) ∷ words) us p n (parts_from Free ((45 ∷ 45 ∷ c ∷ r) ∷ words))
  long_turn us p n h = go (list_any (λ b. b == 61) (c ∷ r)) refl where
    go : (x : Bool) → list_any (λ b. b == 61) (c ∷ r) ≡ x → Told (at us p n false) ((45 ∷ 45 ∷ c ∷ r) ∷ words) us p n (parts_from Free ((45 ∷ 45 ∷ c ∷ r) ∷ words))
    go true e = assigned_long us p n h e (names (c ∷ r)) (names before)
    go false e = bare_long us p n h e (names (c ∷ r))

-- ---- the other words

-- a word of one hyphen and more names nothing
short_none : (c : ℕ) (r : Text) (words : List Text) → (c == 45) ≡ false → parts_from Free ((45 ∷ c ∷ r) ∷ words) ≡ None
short_none c r words h = rw (h, no_name) (rw (and_false (list_any (λ b. b == 61) (c ∷ r))) refl) where
  cut : (t : Bool) → (c == 61) ≡ t → is_option (before_first (λ b. b == 61) (45 ∷ c ∷ r)) ≡ false
  cut true e = rw (take_one (prefix_len (λ b. not (b == 61)) (c ∷ r)) 45 (c ∷ r), e) refl
  cut false e = rw (take_one (prefix_len (λ b. not (b == 61)) (c ∷ r)) 45 (c ∷ r), e, take_one (prefix_len (λ b. not (b == 61)) r) c r, h) refl

  no_name : is_option (before_first (λ b. b == 61) (45 ∷ c ∷ r)) ≡ false
  no_name = cut (c == 61) refl

module _ (word : Text) (words : List Text) (t : Tells words) where
  short_turn : (us p : Uses) (n : Seen) (c : ℕ) (r : Text) → IsUtf8 word → word ≡ 45 ∷ c ∷ r → (c == 45) ≡ false
      → bytes_eq word (45 ∷ 45 ∷ []) ≡ false → Rattle.clap.specs.Lexer.long_of word ≡ None → Rattle.clap.specs.Lexer.short_of word ≡ Some (c ∷ r)
      → Told (at us p n false) (word ∷ words) us p n (parts_from Free (word ∷ words))
  short_turn us p n c r utf8 is other b d e =
      let refused : parts_from Free (word ∷ words) ≡ None = ap (λ w. parts_from Free (w ∷ words)) is ∙ short_none c r words other in
      subst (Told (at us p n false) (word ∷ words) us p n) (sym refused)
      (dead (at us p n false) word words us p n None (rw (b, d, e) (left_only _ _ (short_fault c r (held_at us p) (subst IsUtf8 is utf8) refl))) refl)

  dashes_turn : (us p : Uses) (n : Seen) → IsOne p → word ≡ 45 ∷ 45 ∷ [] → Told (at us p n false) (word ∷ words) us p n (parts_from Free (word ∷ words))
  unfolding walked
  dashes_turn us p n h is =
      let parts : parts_from Free (word ∷ words) ≡ parts_from Behind words = ap (λ w. parts_from Free (w ∷ words)) is ∙ sym (same_parts (parts_from Behind words)) in
      subst (Told (at us p n false) (word ∷ words) us p n) (sym parts)
      (quiet (at us p n false) (at us p n true) word words us p n (parts_from Behind words) (rw is refl) (rw is refl) (t.behind us p n h))

  free_turn : (us p : Uses) (n : Seen) → IsUtf8 word → IsOne p → Told (at us p n false) (word ∷ words) us p n (parts_from Free (word ∷ words))
  free_turn us p n utf8 h = go (looks word) where
    go : Looks word → Told (at us p n false) (word ∷ words) us p n (parts_from Free (word ∷ words))
    go (plain_word a b c d e) = plain_turn word words t us p n h a b c d e
    go (dashes is) = dashes_turn us p n h is
    go (long_word c r is) = subst (λ w. Told (at us p n false) (w ∷ words) us p n (parts_from Free (w ∷ words))) (sym is) (long_turn c r words t us p n h)
    go (short_word c r is other b d e) = short_turn us p n c r utf8 is other b d e

abbrev pub AllUtf8 : List Text → Type 0
AllUtf8 [] = Unit {0}
AllUtf8 (word ∷ words) = IsUtf8 word × AllUtf8 words

pub tells : (words : List Text) → AllUtf8 words → Tells words
tells [] utf8 = record {
  free = λ us p n h. ended us p n false h;
  behind = λ us p n h. ended us p n true h;
  waiting = λ us name n h. ended_waiting us name n h;
}
tells (word ∷ words) utf8 =
    let t = tells words (utf8.1) in
    record {
      free = λ us p n h. free_turn word words t us p n (utf8.0) h;
      behind = λ us p n h. behind_turn word words t us p n h;
      waiting = λ us name n h. waiting_turn word words t us name n (utf8.0) h;
    }
