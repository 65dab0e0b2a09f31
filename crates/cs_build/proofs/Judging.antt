-- Lines judged one after another, and the classes that stand above every text put into a table one after another.
use Rattle.std.proofs.Common.{◌≡◌, ℕ, zero, suc, ◌+◌, ◌<◌, ◌≤◌, ◌||◌, Bool, true, false, List, [], ◌∷◌, ◌++◌, Some, None, Err, option_map, length, map, get_or, take, drop, drop-cons, add-one, refl, ap, sym, subst, ◌∙◌, if◌then◌else◌}
use Rattle.std.specs.Prelude.{Option, find, is_none, is_some, not, option_and_then}
use Rattle.std.specs.Option.{option_map_or, option_or}
use Rattle.std.specs.List.{list_all, list_any}
use Rattle.std.specs.Str.{bytes_eq}
use Rattle.std.specs.Borrow.{Bor}
use Rattle.std.proofs.lemmas.Bool.{false≢true}
use Rattle.std.proofs.lemmas.Grind.{take_at_read}
use Rattle.std.proofs.lemmas.List.{append-nil, drop_all, take_all}
use Rattle.indexmap.specs.IndexMap.{IndexMap}
use Rattle.cs_model.specs.BuilderText as text
use Rattle.cs_model.specs.BuilderText.{Form}
use Rattle.cs_model.specs.BuilderFault as fault
use Rattle.cs_model.specs.BuilderFault.{BuildFault, all_known, byte_count, form_fault, has_misfit, is_known, is_label_lost, known_classes, lines_fault, mention_fault, mentions_in}
use Rattle.cs_build.specs.declared.error.BuildError.{BuildError}
use Rattle.cs_build.specs.declared.error.BuildError.TheVariants as error
use Rattle.cs_build.specs.declared.form.ClassLine.{ClassLine}
use Rattle.cs_build.specs.declared.lines.Line.{Line}
use Rattle.cs_build.specs.declared.tables.Named.{Named}
use Rattle.cs_build.specs.declared.tables.Named.TheVariants as named
use Rattle.cs_build.specs.declared.tables.Tables.{Tables}
use Rattle.cs_build.specs.Lines.{Judges, TellsFault, forms_by, numbered_by, lines_by}
use Rattle.cs_build.specs.Meaning.{class_by, form_by}
use Rattle.cs_build.specs.Tabled.{AreNames, AreTables, class_in_entry, entry_named, is_misfit, is_process_entry}

-- Of lines so many are judged, and the tables are theirs.
pub record AreJudged (lines : List Line) (i : ℕ) (tables : Tables) : Type 0 where
  pub tables_are : AreTables tables (forms_by (take i lines))
  pub fault : lines_fault [] (lines_by lines) ≡ lines_fault (forms_by (take i lines)) (lines_by (drop i lines))

-- A table has these classes and nothing else. Of two with one name the first counts.
pub record HasClasses {S : Type 0} (names : IndexMap (Bor (List ℕ)) Named S) (classes : List ClassLine) : Type 0 where
  pub taken : (q : List ℕ) → is_some (entry_named names q) ≡ list_any (λ c. bytes_eq c.name q) (map class_by classes)
  pub found : (q : List ℕ) → option_and_then class_in_entry (entry_named names q) ≡ find (λ c. bytes_eq c.name q) (map class_by classes)
  pub process : (q : List ℕ) → option_map_or is_process_entry (entry_named names q) false ≡ false

-- ---- lines one after another

pub first-line : (lines : List Line) (i : ℕ) (d : Line) → i < length lines → drop i lines ≡ get_or lines i d ∷ drop (i + 1) lines
first-line lines i d h = rw (add-one, drop-cons lines i d) refl

forms_by-push : (lines : List Line) (line : Line) → forms_by (lines ++ line ∷ []) ≡ forms_by lines ++ form_by line.form ∷ []
forms_by-push [] line = refl
forms_by-push (x ∷ lines) line = ap (λ fs. form_by x.form ∷ fs) (forms_by-push lines line)

pub forms_by-take : (lines : List Line) (i : ℕ) (d : Line) → i < length lines → forms_by (take (i + 1) lines) ≡ forms_by (take i lines) ++ form_by (get_or lines i d).form ∷ []
forms_by-take lines i d h = ap forms_by (take_at_read lines i d h).1 ∙ forms_by-push (take i lines) (get_or lines i d)

pub length-forms : (lines : List Line) → length (forms_by lines) ≡ length lines
length-forms [] = refl
length-forms (line ∷ lines) = ap (λ n. suc n) (length-forms lines)

pub forms_by-drop : (n : ℕ) (lines : List Line) → forms_by (drop n lines) ≡ drop n (forms_by lines)
forms_by-drop zero lines = refl
forms_by-drop (suc n) [] = refl
forms_by-drop (suc n) (line ∷ lines) = forms_by-drop n lines

judged : (above : List Form) (line : Line) (lines : List Line) → form_fault above line.number (form_by line.form) ≡ None
    → lines_fault above (lines_by (line ∷ lines)) ≡ lines_fault (above ++ form_by line.form ∷ []) (lines_by lines)
judged above line lines none = ap (λ r. option_or r (lines_fault (above ++ form_by line.form ∷ []) (lines_by lines))) none

line-at : (lines : List Line) (i : ℕ) (x : Line) → i < length lines → x ≡ get_or lines i x → drop i lines ≡ x ∷ drop (i + 1) lines
line-at lines i x h is = first-line lines i x h ∙ ap (λ y. y ∷ drop (i + 1) lines) (sym is)

pub AreJudged-next : (lines : List Line) (i : ℕ) (old new : Tables) (x : Line) → i < length lines → x ≡ get_or lines i x → AreJudged lines i old
    → form_fault (forms_by (take i lines)) x.number (form_by x.form) ≡ None
    → AreTables new (forms_by (take i lines) ++ form_by x.form ∷ []) → AreJudged lines (i + 1) new
AreJudged-next lines i old new x h is so_far none tables =
    let forms : forms_by (take (i + 1) lines) ≡ forms_by (take i lines) ++ form_by x.form ∷ [] =
    forms_by-take lines i x h ∙ ap (λ y. forms_by (take i lines) ++ form_by y.form ∷ []) (sym is) in
    record {
      tables_are = subst (AreTables new) (sym forms) tables;
      fault = so_far.fault ∙ ap (λ ls. lines_fault (forms_by (take i lines)) (lines_by ls)) (line-at lines i x h is)
          ∙ judged (forms_by (take i lines)) x (drop (i + 1) lines) none
          ∙ ap (λ above. lines_fault above (lines_by (drop (i + 1) lines))) (sym forms);
    }

pub AreJudged-fault : (lines : List Line) (i : ℕ) (tables : Tables) (x : Line) (e : BuildError) → i < length lines → x ≡ get_or lines i x
    → AreJudged lines i tables → Judges {A = Unit {0}} (form_fault (forms_by (take i lines)) x.number (form_by x.form)) (Err e)
    → TellsFault (lines_fault [] (lines_by lines)) e
AreJudged-fault lines i tables x e h is so_far judges = by e judges
  where
    all : (f : BuildFault) → form_fault (forms_by (take i lines)) x.number (form_by x.form) ≡ Some f → lines_fault [] (lines_by lines) ≡ Some f
    all f found = so_far.fault ∙ ap (λ ls. lines_fault (forms_by (take i lines)) (lines_by ls)) (line-at lines i x h is)
        ∙ ap (λ r. option_or r (lines_fault (forms_by (take i lines) ++ form_by x.form ∷ []) (lines_by (drop (i + 1) lines)))) found

    by : (e : BuildError) → Judges {A = Unit {0}} (form_fault (forms_by (take i lines)) x.number (form_by x.form)) (Err e)
        → TellsFault (lines_fault [] (lines_by lines)) e
    by error.TooMany h = all _ h
    by (error.BadLine n) h = all _ h
    by (error.Twice n) h = all _ h
    by (error.BadRange n) h = all _ h
    by (error.BadName n) h = all _ h
    by error.NoMemory h = tt

pub AreJudged-all : (lines : List Line) (i : ℕ) (tables : Tables) → length lines ≤ i → AreJudged lines i tables
    → AreTables tables (forms_by lines) × (lines_fault [] (lines_by lines) ≡ None)
AreJudged-all lines i tables h so_far = (
  subst (λ ls. AreTables tables (forms_by ls)) (take_all i lines h) so_far.tables_are,
  so_far.fault ∙ ap (λ ls. lines_fault (forms_by (take i lines)) (lines_by ls)) (drop_all i lines h),
)

-- ---- references

known-find : (forms : List Form) (line : Line) (lines : List Line) (b : Bool)
    → list_all (is_known forms) (mentions_in (form_by line.form)) ≡ b
    → mention_fault forms (lines_by (line ∷ lines)) ≡ (if not b then Some (fault.BadName line.number) else mention_fault forms (lines_by lines))
known-find forms line lines true e =
    ap (λ b. option_map (λ l. fault.BadName l.0) (if not b then Some (numbered_by line) else find (λ l. not (all_known forms l.1)) (lines_by lines))) e
known-find forms line lines false e =
    ap (λ b. option_map (λ l. fault.BadName l.0) (if not b then Some (numbered_by line) else find (λ l. not (all_known forms l.1)) (lines_by lines))) e

pub mentions-known : (forms : List Form) (lines : List Line) (i : ℕ) (d : Line) → i < length lines
    → list_all (is_known forms) (mentions_in (form_by (get_or lines i d).form)) ≡ true
    → mention_fault forms (lines_by (drop i lines)) ≡ mention_fault forms (lines_by (drop (i + 1) lines))
mentions-known forms lines i d h e =
    ap (λ ls. mention_fault forms (lines_by ls)) (first-line lines i d h) ∙ known-find forms (get_or lines i d) (drop (i + 1) lines) true e

pub mentions-unknown : (forms : List Form) (lines : List Line) (i : ℕ) (d : Line) → i < length lines
    → list_all (is_known forms) (mentions_in (form_by (get_or lines i d).form)) ≡ false
    → mention_fault forms (lines_by (drop i lines)) ≡ Some (fault.BadName (get_or lines i d).number)
mentions-unknown forms lines i d h e =
    ap (λ ls. mention_fault forms (lines_by ls)) (first-line lines i d h) ∙ known-find forms (get_or lines i d) (drop (i + 1) lines) false e

pub mentions-end : (forms : List Form) (lines : List Line) (i : ℕ) → length lines ≤ i → mention_fault forms (lines_by (drop i lines)) ≡ None
mentions-end forms lines i h = ap (λ ls. mention_fault forms (lines_by ls)) (drop_all i lines h)

-- ---- the end of a method

pub misfit-more : (body : List Form) (place : ℕ) (lines : List Line) (i : ℕ) (d : Line) (b : Bool) → i < length lines
    → is_misfit body place (form_by (get_or lines i d).form) ≡ b
    → has_misfit body place (forms_by (drop i lines))
    ≡ (b || has_misfit body (place + byte_count (form_by (get_or lines i d).form)) (forms_by (drop (i + 1) lines)))
misfit-more body place lines i d b h e =
    ap (λ ls. has_misfit body place (forms_by ls)) (first-line lines i d h)
    ∙ ap (λ b. b || has_misfit body (place + byte_count (form_by (get_or lines i d).form)) (forms_by (drop (i + 1) lines))) e

pub misfit-end : (body : List Form) (place : ℕ) (lines : List Line) (i : ℕ) → length lines ≤ i → has_misfit body place (forms_by (drop i lines)) ≡ false
misfit-end body place lines i h = ap (λ ls. has_misfit body place (forms_by ls)) (drop_all i lines h)

pub lost-more : (body : List Form) (lines : List Line) (i : ℕ) (d : Line) (b : Bool) → i < length lines
    → is_label_lost body (form_by (get_or lines i d).form) ≡ b
    → list_any (is_label_lost body) (forms_by (drop i lines)) ≡ (b || list_any (is_label_lost body) (forms_by (drop (i + 1) lines)))
lost-more body lines i d b h e =
    ap (λ ls. list_any (is_label_lost body) (forms_by ls)) (first-line lines i d h)
    ∙ ap (λ b. b || list_any (is_label_lost body) (forms_by (drop (i + 1) lines))) e

pub lost-end : (body : List Form) (lines : List Line) (i : ℕ) → length lines ≤ i → list_any (is_label_lost body) (forms_by (drop i lines)) ≡ false
lost-end body lines i h = ap (λ ls. list_any (is_label_lost body) (forms_by ls)) (drop_all i lines h)

-- ---- the classes that stand above every text

drop-one : {X : Type 0} (xs : List X) (i : ℕ) (d : X) → i < length xs → drop i xs ≡ get_or xs i d ∷ drop (i + 1) xs
drop-one xs i d h = rw (add-one, drop-cons xs i d) refl

pub HasClasses-none : {S : Type 0} (names : IndexMap (Bor (List ℕ)) Named S) → ((q : List ℕ) → entry_named names q ≡ None) → HasClasses names []
HasClasses-none names none = record {
  taken = λ q. ap is_some (none q);
  found = λ q. ap (option_and_then class_in_entry) (none q);
  process = λ q. ap (λ o. option_map_or is_process_entry o false) (none q);
}

pub HasClasses-next : {S : Type 0} (old new : IndexMap (Bor (List ℕ)) Named S) (classes : List ClassLine) (i j : ℕ) (line : ClassLine) (d : ClassLine)
    → j ≡ i + 1 → i < length classes → line ≡ get_or classes i d → HasClasses old (drop j classes)
    → ((q : List ℕ) → entry_named new q ≡ (if bytes_eq line.name.now q then Some (named.Class line) else entry_named old q))
    → HasClasses new (drop i classes)
HasClasses-next old new classes i j line d at h is were put =
    let all : drop i classes ≡ line ∷ drop j classes = drop-one classes i d h ∙ (λ k. sym is k ∷ drop (sym at k) classes) in
    subst (HasClasses new) (sym all) (record {
      taken = λ q. ap is_some (put q) ∙ by (entry_named old q) _ (bytes_eq line.name.now q) (were.taken q);
      found = λ q. ap (option_and_then class_in_entry) (put q) ∙ find_by (entry_named old q) _ (bytes_eq line.name.now q) (were.found q);
      process = λ q. ap (λ o. option_map_or is_process_entry o false) (put q) ∙ no (entry_named old q) (bytes_eq line.name.now q) (were.process q);
    })
  where
    by : (o : Option Named) (rest b : Bool) → is_some o ≡ rest → is_some (if b then Some (named.Class line) else o) ≡ (b || rest)
    by o rest true e = refl
    by o rest false e = e

    find_by : (o : Option Named) (rest : Option text.ClassLine) (b : Bool) → option_and_then class_in_entry o ≡ rest
        → option_and_then class_in_entry (if b then Some (named.Class line) else o) ≡ (if b then Some (class_by line) else rest)
    find_by o rest true e = refl
    find_by o rest false e = e

    no : (o : Option Named) (b : Bool) → option_map_or is_process_entry o false ≡ false
        → option_map_or is_process_entry (if b then Some (named.Class line) else o) false ≡ false
    no o true e = refl
    no o false e = e

or-false : (b : Bool) → (b || false) ≡ b
or-false true = refl
or-false false = refl

pub HasClasses-all : {S : Type 0} (names : IndexMap (Bor (List ℕ)) Named S) (classes : List ClassLine) → map class_by classes ≡ known_classes
    → HasClasses names classes → AreNames names []
HasClasses-all names classes known has = record {
  taken = λ q. has.taken q ∙ ap (list_any (λ c. bytes_eq c.name q)) known ∙ sym (or-false (list_any (λ c. bytes_eq c.name q) known_classes));
  classes = λ q. has.found q ∙ ap (find (λ c. bytes_eq c.name q)) (known ∙ sym (append-nil known_classes));
  processes = has.process;
}

-- a label that isn't there
pub none-by : {A : Type 0} (r : Bool) (o p : Option A) → is_some o ≡ not r → o ≡ p → r ≡ is_none p
none-by {A} true o p e f = by p (ap is_some (sym f) ∙ e)
  where
    by : (p : Option A) → is_some p ≡ false → true ≡ is_none p
    by None h = refl
    by (Some x) h = absurd (false≢true (sym h))
none-by {A} false o p e f = by p (ap is_some (sym f) ∙ e)
  where
    by : (p : Option A) → is_some p ≡ true → false ≡ is_none p
    by None h = absurd (false≢true h)
    by (Some x) h = refl
