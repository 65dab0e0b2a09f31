-- What one line more changes of what the lines above say, and of the tables that hold it.
use Rattle.std.proofs.Common.{◌≡◌, ℕ, Bool, true, false, ◌+◌, ◌-◌, ◌≤◌, ◌&&◌, ◌||◌, List, [], ◌∷◌, ◌++◌, Some, None, option_map, length, drop, refl, arith, ap, sym, subst, ◌∙◌, if◌then◌else◌, append_assoc, cond}
use Rattle.std.specs.Prelude.{ℤ, Option, not, find, flat_map, count_by, is_some, option_and_then}
use Rattle.std.specs.Option.{option_map_or, option_or}
use Rattle.std.specs.List.{list_any, after_last, prefix_len, suffix_len}
use Rattle.std.specs.Str.{bytes_eq}
use Rattle.std.specs.Borrow.{Bor}
use Rattle.std.proofs.lemmas.Bool.{false≢true}
use Rattle.std.proofs.lemmas.Grind.{flat_map-append}
use Rattle.std.proofs.lemmas.List.{append-nil, drop_all, drop-append-le, length_push, reverse-append}
use Rattle.std.proofs.lemmas.List.Folds.{find-append, list_any-append}
use Rattle.std.proofs.lemmas.List.Sums.{sum_by-append, sum_by-cons}
use Rattle.std.proofs.lemmas.Slice.Eq.{bytes_eq-Decides}
use Rattle.indexmap.specs.IndexMap.{IndexMap}
use Rattle.cs_model.specs.BuilderText as text
use Rattle.cs_model.specs.BuilderText.{ClassLine, Form, MethodLine, ProcessLine, is_inside}
use Rattle.cs_model.specs.BuilderFault.{all_classes, byte_count, class_lines_in, class_named, is_active_line, is_end_line, is_label, is_literal, is_method_line, is_open, is_process_name, is_taken, is_twice, known_classes, label_place, method_named, methods_in, names_in, open_body, place_where, process_lines_in}
use Rattle.cs_build.specs.declared.form.Form as code
use Rattle.cs_build.specs.declared.tables.Named.{Named}
use Rattle.cs_build.specs.declared.tables.Body.{Body}
use Rattle.cs_build.specs.Meaning.{form_by}
use Rattle.cs_build.specs.Tabled.{AreMethods, AreNames, IsBody, class_in_entry, code_size, entry_named, entry_at_two, is_process_entry}

-- ---- texts of bytes

pub bytes_eq-sym : (xs ys : List ℕ) → bytes_eq xs ys ≡ bytes_eq ys xs
bytes_eq-sym xs ys = by (bytes_eq xs ys) refl (bytes_eq ys xs) refl
  where
    by : (a : Bool) → bytes_eq xs ys ≡ a → (b : Bool) → bytes_eq ys xs ≡ b → bytes_eq xs ys ≡ bytes_eq ys xs
    by true e true f = e ∙ sym f
    by false e false f = e ∙ sym f
    by true e false f = absurd (false≢true (sym f ∙ (bytes_eq-Decides ys xs).1 (sym ((bytes_eq-Decides xs ys).0 e))))
    by false e true f = absurd (false≢true (sym e ∙ (bytes_eq-Decides xs ys).1 (sym ((bytes_eq-Decides ys xs).0 f))))

-- ---- one line more: names

or-false : (b : Bool) → (b || false) ≡ b
or-false true = refl
or-false false = refl

taken-more : (above : List Form) (f : Form) (q : List ℕ) → is_taken (above ++ f ∷ []) q ≡ (is_taken above q || list_any (bytes_eq q) (names_in f))
taken-more above f q =
    ap (λ b. list_any (λ c. bytes_eq c.name q) known_classes || b) (list_any-append (λ g. list_any (bytes_eq q) (names_in g)) above (f ∷ []))
    ∙ by (list_any (λ c. bytes_eq c.name q) known_classes) (list_any (λ g. list_any (bytes_eq q) (names_in g)) above) (list_any (bytes_eq q) (names_in f))
  where
    by : (a b c : Bool) → (a || (b || (c || false))) ≡ ((a || b) || c)
    by true b c = refl
    by false true c = refl
    by false false c = or-false c

class-more : (above : List Form) (f : Form) (q : List ℕ)
    → class_named (above ++ f ∷ []) q ≡ option_or (class_named above q) (find (λ c. bytes_eq c.name q) (class_lines_in f))
class-more above f q =
    ap (λ cs. find (λ c. bytes_eq c.name q) (known_classes ++ cs)) (flat_map-append class_lines_in above (f ∷ []))
    ∙ ap (find (λ c. bytes_eq c.name q)) (sym (append_assoc known_classes (flat_map class_lines_in above) (class_lines_in f ++ [])))
    ∙ find-append (λ c. bytes_eq c.name q) (all_classes above) (class_lines_in f ++ [])
    ∙ ap (λ cs. option_or (class_named above q) (find (λ c. bytes_eq c.name q) cs)) (append-nil (class_lines_in f))

process-more : (above : List Form) (f : Form) (q : List ℕ)
    → is_process_name (above ++ f ∷ []) q ≡ (is_process_name above q || list_any (λ p. bytes_eq p.name q) (process_lines_in f))
process-more above f q =
    ap (list_any (λ p. bytes_eq p.name q)) (flat_map-append process_lines_in above (f ∷ []))
    ∙ list_any-append (λ p. bytes_eq p.name q) (flat_map process_lines_in above) (process_lines_in f ++ [])
    ∙ ap (λ ps. is_process_name above q || list_any (λ p. bytes_eq p.name q) ps) (append-nil (process_lines_in f))

method-more : (above : List Form) (f : Form) (class selector : List ℕ)
    → method_named (above ++ f ∷ []) class selector
    ≡ option_or (method_named above class selector) (find (λ m. bytes_eq m.class class && bytes_eq m.selector selector) (methods_in f))
method-more above f class selector =
    ap (find (λ m. bytes_eq m.class class && bytes_eq m.selector selector)) (flat_map-append methods_in above (f ∷ []))
    ∙ find-append (λ m. bytes_eq m.class class && bytes_eq m.selector selector) (flat_map methods_in above) (methods_in f ++ [])
    ∙ ap (λ ms. option_or (method_named above class selector) (find (λ m. bytes_eq m.class class && bytes_eq m.selector selector) ms))
    (append-nil (methods_in f))

-- a line that names something
pub record Names (f : Form) (name : List ℕ) (v : Named) : Type 0 where
  pub taken : (q : List ℕ) → list_any (bytes_eq q) (names_in f) ≡ bytes_eq name q
  pub class : (q : List ℕ) → find (λ c. bytes_eq c.name q) (class_lines_in f) ≡ (if bytes_eq name q then class_in_entry v else None)
  pub process : (q : List ℕ) → list_any (λ p. bytes_eq p.name q) (process_lines_in f) ≡ (if bytes_eq name q then is_process_entry v else false)

none-some : {A : Type 0} (o : Option A) → is_some o ≡ false → o ≡ None
none-some None h = refl
none-some (Some x) h = absurd (false≢true (sym h))

some-or : {A : Type 0} (o p : Option A) → p ≡ None → option_or o p ≡ o
some-or None p e = e
some-or (Some x) p e = refl

pub names-put : {S : Type 0} (old new : IndexMap (Bor (List ℕ)) Named S) (above : List Form) (f : Form) (name : List ℕ) (v : Named)
    → AreNames old above → is_taken above name ≡ false → Names f name v
    → ((q : List ℕ) → entry_named new q ≡ (if bytes_eq name q then Some v else entry_named old q))
    → AreNames new (above ++ f ∷ [])
names-put old new above f name v were fresh names put = record {
  taken = λ q. ap is_some (put q) ∙ taken q (bytes_eq name q) refl ∙ sym (taken-more above f q ∙ ap (λ b. is_taken above q || b) (names.taken q));
  classes = λ q. ap (option_and_then class_in_entry) (put q) ∙ class q (bytes_eq name q) refl
      ∙ sym (class-more above f q ∙ ap (option_or (class_named above q)) (names.class q));
  processes = λ q. ap (λ o. option_map_or is_process_entry o false) (put q) ∙ process q (bytes_eq name q) refl
      ∙ sym (process-more above f q ∙ ap (λ b. is_process_name above q || b) (names.process q));
}
  where
    gone : (q : List ℕ) → bytes_eq name q ≡ true → entry_named old q ≡ None
    gone q e = none-some (entry_named old q) (were.taken q ∙ ap (is_taken above) (sym ((bytes_eq-Decides name q).0 e)) ∙ fresh)

    taken : (q : List ℕ) (b : Bool) → bytes_eq name q ≡ b → is_some (if bytes_eq name q then Some v else entry_named old q) ≡ (is_taken above q || bytes_eq name q)
    taken q true e = ap (λ b. is_some (if b then Some v else entry_named old q)) e
        ∙ sym (ap (λ b. is_taken above q || b) e ∙ ap (λ b. b || true) (sym (were.taken q) ∙ ap is_some (gone q e)))
    taken q false e = ap (λ b. is_some (if b then Some v else entry_named old q)) e ∙ were.taken q
        ∙ sym (ap (λ b. is_taken above q || b) e ∙ or-false (is_taken above q))

    class : (q : List ℕ) (b : Bool) → bytes_eq name q ≡ b
        → option_and_then class_in_entry (if bytes_eq name q then Some v else entry_named old q)
        ≡ option_or (class_named above q) (if bytes_eq name q then class_in_entry v else None)
    class q true e = ap (λ b. option_and_then class_in_entry (if b then Some v else entry_named old q)) e
        ∙ sym (ap (λ b. option_or (class_named above q) (if b then class_in_entry v else None)) e
        ∙ ap (λ o. option_or o (class_in_entry v)) (sym (were.classes q) ∙ ap (option_and_then class_in_entry) (gone q e)))
    class q false e = ap (λ b. option_and_then class_in_entry (if b then Some v else entry_named old q)) e ∙ were.classes q
        ∙ sym (ap (λ b. option_or (class_named above q) (if b then class_in_entry v else None)) e ∙ some-or (class_named above q) None refl)

    process : (q : List ℕ) (b : Bool) → bytes_eq name q ≡ b
        → option_map_or is_process_entry (if bytes_eq name q then Some v else entry_named old q) false
        ≡ (is_process_name above q || (if bytes_eq name q then is_process_entry v else false))
    process q true e = ap (λ b. option_map_or is_process_entry (if b then Some v else entry_named old q) false) e
        ∙ sym (ap (λ b. is_process_name above q || (if b then is_process_entry v else false)) e
        ∙ ap (λ b. b || is_process_entry v) (sym (were.processes q) ∙ ap (λ o. option_map_or is_process_entry o false) (gone q e)))
    process q false e = ap (λ b. option_map_or is_process_entry (if b then Some v else entry_named old q) false) e ∙ were.processes q
        ∙ sym (ap (λ b. is_process_name above q || (if b then is_process_entry v else false)) e ∙ or-false (is_process_name above q))

-- a line that names nothing
pub names-keep : {S : Type 0} (names : IndexMap (Bor (List ℕ)) Named S) (above : List Form) (f : Form)
    → AreNames names above → names_in f ≡ [] → AreNames names (above ++ f ∷ [])
names-keep names above f were none = record {
  taken = λ q. were.taken q ∙ sym (taken-more above f q ∙ ap (λ ns. is_taken above q || list_any (bytes_eq q) ns) none ∙ or-false (is_taken above q));
  classes = λ q. were.classes q ∙ sym (class-more above f q ∙ some-or (class_named above q) _ (ap (find (λ c. bytes_eq c.name q)) (no-class f none)));
  processes = λ q. were.processes q
      ∙ sym (process-more above f q ∙ ap (λ ps. is_process_name above q || list_any (λ p. bytes_eq p.name q) ps) (no-process f none) ∙ or-false (is_process_name above q));
}
  where
    no-class : (f : Form) → names_in f ≡ [] → class_lines_in f ≡ []
    no-class (text.Class line) h = absurd cc
    no-class (text.Object name class slots) h = refl
    no-class (text.Bytes name class bytes) h = refl
    no-class (text.Method line) h = refl
    no-class (text.Process line) h = refl
    no-class (text.Special place value) h = refl
    no-class (text.Active name) h = refl
    no-class (text.Ready name) h = refl
    no-class (text.Literal value) h = refl
    no-class (text.Byte value) h = refl
    no-class (text.Label name) h = refl
    no-class (text.Plain o) h = refl
    no-class (text.JumpTo word label) h = refl
    no-class (text.ClosureTo copied args label) h = refl
    no-class text.End h = refl

    no-process : (f : Form) → names_in f ≡ [] → process_lines_in f ≡ []
    no-process (text.Class line) h = refl
    no-process (text.Object name class slots) h = refl
    no-process (text.Bytes name class bytes) h = refl
    no-process (text.Method line) h = refl
    no-process (text.Process line) h = absurd cc
    no-process (text.Special place value) h = refl
    no-process (text.Active name) h = refl
    no-process (text.Ready name) h = refl
    no-process (text.Literal value) h = refl
    no-process (text.Byte value) h = refl
    no-process (text.Label name) h = refl
    no-process (text.Plain o) h = refl
    no-process (text.JumpTo word label) h = refl
    no-process (text.ClosureTo copied args label) h = refl
    no-process text.End h = refl

one-name : (name q : List ℕ) → list_any (bytes_eq q) (name ∷ []) ≡ bytes_eq name q
one-name name q = or-false (bytes_eq q name) ∙ bytes_eq-sym q name

pub class-names : (line : ClassLine) (v : Named) → class_in_entry v ≡ Some line → is_process_entry v ≡ false → Names (text.Class line) line.name v
class-names line v e f = record {
  taken = one-name line.name;
  class = λ q. ap (λ o. if bytes_eq line.name q then o else None) (sym e);
  process = λ q. by q (bytes_eq line.name q);
}
  where
    by : (q : List ℕ) (b : Bool) → false ≡ (if b then is_process_entry v else false)
    by q true = sym f
    by q false = refl

pub process-names : (line : ProcessLine) (v : Named) → class_in_entry v ≡ None → is_process_entry v ≡ true → Names (text.Process line) line.name v
process-names line v e f = record {
  taken = one-name line.name;
  class = λ q. by q (bytes_eq line.name q);
  process = λ q. is q (bytes_eq line.name q);
}
  where
    by : (q : List ℕ) (b : Bool) → None ≡ (if b then class_in_entry v else None)
    by q true = sym e
    by q false = refl

    is : (q : List ℕ) (b : Bool) → (b || false) ≡ (if b then is_process_entry v else false)
    is q true = sym f
    is q false = refl

pub other-names : (f : Form) (name : List ℕ) (v : Named) → names_in f ≡ name ∷ [] → class_lines_in f ≡ [] → process_lines_in f ≡ []
    → class_in_entry v ≡ None → is_process_entry v ≡ false → Names f name v
other-names f name v names classes processes e g = record {
  taken = λ q. ap (list_any (bytes_eq q)) names ∙ one-name name q;
  class = λ q. ap (find (λ c. bytes_eq c.name q)) classes ∙ by q (bytes_eq name q);
  process = λ q. ap (list_any (λ p. bytes_eq p.name q)) processes ∙ is q (bytes_eq name q);
}
  where
    by : (q : List ℕ) (b : Bool) → None ≡ (if b then class_in_entry v else None)
    by q true = sym e
    by q false = refl

    is : (q : List ℕ) (b : Bool) → false ≡ (if b then is_process_entry v else false)
    is q true = sym g
    is q false = refl

-- what names something a second time
pub named-fresh : (above : List Form) (f : Form) (name : List ℕ) → names_in f ≡ name ∷ [] → (is_twice above f ≡ list_any (is_taken above) (names_in f))
    → is_twice above f ≡ false → is_taken above name ≡ false
named-fresh above f name names twice fresh =
    sym (or-false (is_taken above name)) ∙ sym (ap (list_any (is_taken above)) names) ∙ sym twice ∙ fresh

-- ---- one line more: methods

pub methods-put : {S : Type 0} (old new : IndexMap (Bor (List ℕ) × Bor (List ℕ)) ℤ S) (above : List Form) (line : MethodLine)
    → AreMethods old above → is_twice above (text.Method line) ≡ false
    → ((c s : List ℕ) → entry_at_two new c s ≡ (if bytes_eq line.class c && bytes_eq line.selector s then Some line.arguments else entry_at_two old c s))
    → AreMethods new (above ++ text.Method line ∷ [])
methods-put old new above line were fresh put = record {
  arguments = λ c s. put c s ∙ by c s (bytes_eq line.class c) (bytes_eq line.selector s) refl refl
      ∙ sym (ap (option_map (λ m. m.arguments)) (method-more above (text.Method line) c s));
}
  where
    gone : (c s : List ℕ) → bytes_eq line.class c ≡ true → bytes_eq line.selector s ≡ true → method_named above c s ≡ None
    gone c s e f = none-some (method_named above c s)
        (sym (λ i. is_some (method_named above ((bytes_eq-Decides line.class c).0 e i) ((bytes_eq-Decides line.selector s).0 f i))) ∙ fresh)

    other : (c s : List ℕ) → (bytes_eq line.class c && bytes_eq line.selector s) ≡ false
        → (if bytes_eq line.class c && bytes_eq line.selector s then Some line.arguments else entry_at_two old c s)
        ≡ option_map (λ m. m.arguments) (option_or (method_named above c s) (if bytes_eq line.class c && bytes_eq line.selector s then Some line else None))
    other c s e = ap (λ b. if b then Some line.arguments else entry_at_two old c s) e ∙ were.arguments c s
        ∙ sym (ap (λ b. option_map (λ m. m.arguments) (option_or (method_named above c s) (if b then Some line else None))) e
        ∙ ap (option_map (λ m. m.arguments)) (some-or (method_named above c s) None refl))

    by : (c s : List ℕ) (a b : Bool) → bytes_eq line.class c ≡ a → bytes_eq line.selector s ≡ b
        → (if bytes_eq line.class c && bytes_eq line.selector s then Some line.arguments else entry_at_two old c s)
        ≡ option_map (λ m. m.arguments) (option_or (method_named above c s) (if bytes_eq line.class c && bytes_eq line.selector s then Some line else None))
    by c s true true e f =
        (λ i. if e i && f i then Some line.arguments else entry_at_two old c s)
        ∙ sym ((λ i. option_map (λ m. m.arguments) (option_or (method_named above c s) (if e i && f i then Some line else None)))
        ∙ ap (λ o. option_map (λ m. m.arguments) (option_or o (Some line))) (gone c s e f))
    by c s true false e f = other c s (λ i. e i && f i)
    by c s false b e f = other c s (ap (λ a. a && bytes_eq line.selector s) e)

pub methods-keep : {S : Type 0} (methods : IndexMap (Bor (List ℕ) × Bor (List ℕ)) ℤ S) (above : List Form) (f : Form)
    → AreMethods methods above → methods_in f ≡ [] → AreMethods methods (above ++ f ∷ [])
methods-keep methods above f were none = record {
  arguments = λ c s. were.arguments c s ∙ sym (ap (option_map (λ m. m.arguments))
      (method-more above f c s ∙ some-or (method_named above c s) _ (ap (find (λ m. bytes_eq m.class c && bytes_eq m.selector s)) none)));
}

-- ---- one line more: the active process and the open method

pub active-more : (above : List Form) (f : Form) → list_any is_active_line (above ++ f ∷ []) ≡ (list_any is_active_line above || is_active_line f)
active-more above f = list_any-append is_active_line above (f ∷ []) ∙ ap (λ b. list_any is_active_line above || b) (or-false (is_active_line f))

-- ---- the open body

suffix-more : {X : Type 0} (p : X → Bool) (xs : List X) (y : X) → suffix_len p (xs ++ y ∷ []) ≡ cond (p y) (1 + suffix_len p xs) 0
suffix-more p xs y = ap (prefix_len p) (reverse-append xs (y ∷ []))

after-begin : {X : Type 0} (p : X → Bool) (xs : List X) (y : X) → p y ≡ true → after_last p (xs ++ y ∷ []) ≡ []
after-begin p xs y e =
    let none : suffix_len (λ x. not (p x)) (xs ++ y ∷ []) ≡ 0 = suffix-more (λ x. not (p x)) xs y ∙ ap (λ b. cond (not b) (1 + suffix_len (λ x. not (p x)) xs) 0) e in
    drop_all (length (xs ++ y ∷ []) - suffix_len (λ x. not (p x)) (xs ++ y ∷ [])) (xs ++ y ∷ []) (omega (arith, none))

after-more : {X : Type 0} (p : X → Bool) (xs : List X) (y : X) → p y ≡ false → after_last p (xs ++ y ∷ []) ≡ after_last p xs ++ y ∷ []
after-more p xs y e =
    let one : suffix_len (λ x. not (p x)) (xs ++ y ∷ []) ≡ 1 + suffix_len (λ x. not (p x)) xs =
    suffix-more (λ x. not (p x)) xs y ∙ ap (λ b. cond (not b) (1 + suffix_len (λ x. not (p x)) xs) 0) e in
    let same : length (xs ++ y ∷ []) - suffix_len (λ x. not (p x)) (xs ++ y ∷ []) ≡ length xs - suffix_len (λ x. not (p x)) xs =
    omega (arith, one, length_push xs y) in
    ap (λ n. drop n (xs ++ y ∷ [])) same ∙ drop-append-le (length xs - suffix_len (λ x. not (p x)) xs) xs (y ∷ []) (omega arith)

pub body-begin : (above : List Form) (f : Form) → is_method_line f ≡ true → open_body (above ++ f ∷ []) ≡ []
body-begin above f e = after-begin is_method_line above f e

pub body-more : (above : List Form) (f : Form) → is_method_line f ≡ false → open_body (above ++ f ∷ []) ≡ open_body above ++ f ∷ []
body-more above f e = after-more is_method_line above f e

methods-more : (above : List Form) (f : Form) → list_any is_method_line (above ++ f ∷ []) ≡ (list_any is_method_line above || is_method_line f)
methods-more above f = list_any-append is_method_line above (f ∷ []) ∙ ap (λ b. list_any is_method_line above || b) (or-false (is_method_line f))

ends-more : (above : List Form) (f : Form) → is_method_line f ≡ false
    → list_any is_end_line (open_body (above ++ f ∷ [])) ≡ (list_any is_end_line (open_body above) || is_end_line f)
ends-more above f e = ap (list_any is_end_line) (body-more above f e) ∙ list_any-append is_end_line (open_body above) (f ∷ [])
    ∙ ap (λ b. list_any is_end_line (open_body above) || b) (or-false (is_end_line f))

open-other : (above : List Form) (f : Form) → is_method_line f ≡ false → is_end_line f ≡ false → is_open (above ++ f ∷ []) ≡ is_open above
open-other above f e g =
    let first : list_any is_method_line (above ++ f ∷ []) ≡ list_any is_method_line above =
    methods-more above f ∙ ap (λ b. list_any is_method_line above || b) e ∙ or-false (list_any is_method_line above) in
    let second : list_any is_end_line (open_body (above ++ f ∷ [])) ≡ list_any is_end_line (open_body above) =
    ends-more above f e ∙ ap (λ b. list_any is_end_line (open_body above) || b) g ∙ or-false (list_any is_end_line (open_body above)) in
    λ i. first i && not (second i)

open-end : (above : List Form) → is_open (above ++ text.End ∷ []) ≡ false
open-end above =
    ap (λ b. list_any is_method_line (above ++ text.End ∷ []) && not b) (ends-more above text.End refl)
    ∙ by (list_any is_method_line (above ++ text.End ∷ [])) (list_any is_end_line (open_body above))
  where
    by : (a b : Bool) → (a && not (b || true)) ≡ false
    by true true = refl
    by true false = refl
    by false b = refl

open-begin : (above : List Form) (line : MethodLine) → is_open (above ++ text.Method line ∷ []) ≡ true
open-begin above line =
    (λ i. methods-more above (text.Method line) i && not (list_any is_end_line (body-begin above (text.Method line) refl i)))
    ∙ by (list_any is_method_line above)
  where
    by : (a : Bool) → ((a || true) && true) ≡ true
    by true = refl
    by false = refl

pub open-more : (above : List Form) (f : Form) → is_open (above ++ f ∷ []) ≡ is_inside (is_open above) (Some f)
open-more above (text.Class line) = open-other above (text.Class line) refl refl
open-more above (text.Object name class slots) = open-other above (text.Object name class slots) refl refl
open-more above (text.Bytes name class bytes) = open-other above (text.Bytes name class bytes) refl refl
open-more above (text.Method line) = open-begin above line
open-more above (text.Process line) = open-other above (text.Process line) refl refl
open-more above (text.Special place value) = open-other above (text.Special place value) refl refl
open-more above (text.Active name) = open-other above (text.Active name) refl refl
open-more above (text.Ready name) = open-other above (text.Ready name) refl refl
open-more above (text.Literal value) = open-other above (text.Literal value) refl refl
open-more above (text.Byte value) = open-other above (text.Byte value) refl refl
open-more above (text.Label name) = open-other above (text.Label name) refl refl
open-more above (text.Plain o) = open-other above (text.Plain o) refl refl
open-more above (text.JumpTo word label) = open-other above (text.JumpTo word label) refl refl
open-more above (text.ClosureTo copied args label) = open-other above (text.ClosureTo copied args label) refl refl
open-more above text.End = open-end above

-- ---- labels, places and literals

pub size-more : (body : List Form) (f : Form) → code_size (body ++ f ∷ []) ≡ code_size body + byte_count f
size-more [] f = omega arith
size-more (g ∷ body) f = let rest = size-more body f in omega (arith, rest)

place-more : (p : Form → Bool) (n : ℕ) (body : List Form) (f : Form)
    → place_where byte_count p n (body ++ f ∷ []) ≡ option_or (place_where byte_count p n body) (if p f then Some (n + code_size body) else None)
place-more p n [] f = ap (λ m. if p f then Some m else None) (omega arith)
place-more p n (g ∷ body) f = by (p g) (place-more p (n + byte_count g) body f)
  where
    by : (b : Bool) → place_where byte_count p (n + byte_count g) (body ++ f ∷ [])
        ≡ option_or (place_where byte_count p (n + byte_count g) body) (if p f then Some ((n + byte_count g) + code_size body) else None)
        → (if b then Some n else place_where byte_count p (n + byte_count g) (body ++ f ∷ []))
        ≡ option_or (if b then Some n else place_where byte_count p (n + byte_count g) body) (if p f then Some (n + (byte_count g + code_size body)) else None)
    by true rest = refl
    by false rest = rest ∙ ap (λ m. option_or (place_where byte_count p (n + byte_count g) body) (if p f then Some m else None)) (omega arith)

label-more : (body : List Form) (f : Form) (q : List ℕ)
    → label_place (body ++ f ∷ []) q ≡ option_or (label_place body q) (if is_label q f then Some (code_size body) else None)
label-more body f q =
    place-more (is_label q) 0 body f ∙ ap (λ m. option_or (label_place body q) (if is_label q f then Some m else None)) (omega arith)

-- a label stands somewhere exactly where it has a place
pub place-any : (p : Form → Bool) (n : ℕ) (body : List Form) → is_some (place_where byte_count p n body) ≡ list_any p body
place-any p n [] = refl
place-any p n (g ∷ body) = by (p g) (place-any p (n + byte_count g) body)
  where
    by : (b : Bool) → is_some (place_where byte_count p (n + byte_count g) body) ≡ list_any p body
        → is_some (if b then Some n else place_where byte_count p (n + byte_count g) body) ≡ (b || list_any p body)
    by true rest = refl
    by false rest = rest

literals-more : (body : List Form) (f : Form) → count_by is_literal (body ++ f ∷ []) ≡ count_by is_literal body + (if is_literal f then 1 else 0)
literals-more body f =
    sum_by-append (λ g. if is_literal g then 1 else 0) body (f ∷ [])
    ∙ ap (λ n. count_by is_literal body + n) (sum_by-cons (λ g. if is_literal g then 1 else 0) f [] ∙ omega arith)

drop-more : (n : ℕ) (above : List Form) (f : Form) → n ≤ length above → drop n (above ++ f ∷ []) ≡ drop n above ++ f ∷ []
drop-more n above f h = drop-append-le n above (f ∷ []) h

-- a line that no method begins with
pub body-keep : (old new : Body) (above : List Form) (f : Form) → IsBody old above → is_method_line f ≡ false
    → ((q : List ℕ) → entry_named new.labels q ≡ option_or (entry_named old.labels q) (if is_label q f then Some old.place else None))
    → new.place ≡ old.place + byte_count f → byte_count f ≤ 4 → new.literals ≡ old.literals + (if is_literal f then 1 else 0) → new.start ≡ old.start
    → IsBody new (above ++ f ∷ [])
body-keep old new above f were e labels place short literals start = record {
  labels = λ q. labels q ∙ (λ i. option_or (were.labels q i) (if is_label q f then Some (were.place i) else None))
      ∙ sym (ap (λ body. label_place body q) (body-more above f e) ∙ label-more (open_body above) f q);
  place = place ∙ ap (λ n. n + byte_count f) were.place ∙ sym (ap code_size (body-more above f e) ∙ size-more (open_body above) f);
  literals = literals ∙ ap (λ n. n + (if is_literal f then 1 else 0)) were.literals
      ∙ sym (ap (count_by is_literal) (body-more above f e) ∙ literals-more (open_body above) f);
  start = ap (λ n. drop n (above ++ f ∷ [])) start ∙ drop-more old.start above f were.inside
      ∙ ap (λ body. body ++ f ∷ []) were.start ∙ sym (body-more above f e);
  inside = omega (arith, start, were.inside, length_push above f);
  small = omega (arith, place, short, were.small, length_push above f);
  few = omega (arith, literals, were.few, length_push above f, one (is_literal f));
}
  where
    one : (b : Bool) → (if b then 1 else 0) ≤ 1
    one true = omega arith
    one false = omega arith

-- a label
pub body-label : (old new : Body) (above : List Form) (name : List ℕ) → IsBody old above → is_twice above (text.Label name) ≡ false
    → ((q : List ℕ) → entry_named new.labels q ≡ (if bytes_eq name q then Some old.place else entry_named old.labels q))
    → new.place ≡ old.place → new.literals ≡ old.literals → new.start ≡ old.start → IsBody new (above ++ text.Label name ∷ [])
body-label old new above name were fresh put place literals start =
    body-keep old new above (text.Label name) were refl (λ q. put q ∙ by q (bytes_eq name q) refl) (place ∙ omega arith) (omega arith) (literals ∙ omega arith) start
  where
    gone : (q : List ℕ) → bytes_eq name q ≡ true → entry_named old.labels q ≡ None
    gone q e = none-some (entry_named old.labels q)
        (ap is_some (were.labels q) ∙ place-any (is_label q) 0 (open_body above) ∙ ap (λ n. list_any (is_label n) (open_body above)) (sym ((bytes_eq-Decides name q).0 e)) ∙ fresh)

    by : (q : List ℕ) (b : Bool) → bytes_eq name q ≡ b
        → (if bytes_eq name q then Some old.place else entry_named old.labels q) ≡ option_or (entry_named old.labels q) (if bytes_eq q name then Some old.place else None)
    by q true e = ap (λ b. if b then Some old.place else entry_named old.labels q) e
        ∙ sym ((λ i. option_or (gone q e i) (if (bytes_eq-sym q name ∙ e) i then Some old.place else None)))
    by q false e = ap (λ b. if b then Some old.place else entry_named old.labels q) e
        ∙ sym (ap (λ b. option_or (entry_named old.labels q) (if b then Some old.place else None)) (bytes_eq-sym q name ∙ e) ∙ some-or (entry_named old.labels q) None refl)

-- a line that isn't one
pub body-other : (old new : Body) (above : List Form) (f : Form) → IsBody old above → is_method_line f ≡ false → ((q : List ℕ) → is_label q f ≡ false)
    → new.labels ≡ old.labels → new.place ≡ old.place + byte_count f → byte_count f ≤ 4
    → new.literals ≡ old.literals + (if is_literal f then 1 else 0) → new.start ≡ old.start → IsBody new (above ++ f ∷ [])
body-other old new above f were e none labels place short literals start =
    body-keep old new above f were e
    (λ q. ap (λ table. entry_named table q) labels ∙ sym (ap (λ b. option_or (entry_named old.labels q) (if b then Some old.place else None)) (none q) ∙ some-or (entry_named old.labels q) None refl))
    place short literals start

-- what a line names, by the code's line
pub noted : {S : Type 0} (old new : IndexMap (Bor (List ℕ)) Named S) (form : code.Form) (f : Form) (name : List ℕ) (v : Named) → form_by form ≡ f
    → names_in f ≡ name ∷ [] → ((above : List Form) → is_twice above f ≡ list_any (is_taken above) (names_in f)) → Names f name v
    → ((q : List ℕ) → entry_named new q ≡ (if bytes_eq name q then Some v else entry_named old q))
    → (above : List Form) → AreNames old above → is_twice above (form_by form) ≡ false → AreNames new (above ++ form_by form ∷ [])
noted old new form f name v is one twice names put above were fresh =
    subst (λ g. AreNames new (above ++ g ∷ [])) (sym is)
    (names-put old new above f name v were (named-fresh above f name one (twice above) (ap (is_twice above) (sym is) ∙ fresh)) names put)
