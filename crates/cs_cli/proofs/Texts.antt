-- Why a text builds no image, and how that is told.
use Rattle.std.proofs.Common.{◌≡◌, ◌<◌, ◌≤◌, ℕ, true, List, Option, Some, None, option_map, IfSome, Err, length, take, refl, ap, subst, sym, ◌∙◌, arith, replicate}
use Rattle.std.specs.Option.{option_map_or}
use Rattle.std.proofs.lemmas.Bool.Decides.{nat_tests}
use Rattle.std.proofs.lemmas.List.{length-replicate}
use Rattle.cs_model.specs.BuilderFault.{BuildFault, TooMany, is_too_much, text_fault}
use Rattle.cs_model.specs.Text.{is_too_long}
use Rattle.cs_build.specs.Lines.{TellsFault}
use Rattle.cs_build.specs.declared.error.BuildError.{BuildError}
use Rattle.cs_build.specs.declared.error.BuildError.TheVariants as error
use Rattle.cs_model.specs.CommandLine.{Options}
use Rattle.cs_cli.specs.Answer as answer
use Rattle.cs_cli.specs.Answer.{Answer, BuildAnswered, HasTextFault, Printed, Reading, Saved, Saving, Writing, no_memory, refused_text}
use Rattle.cs_cli.specs.Building.{Builds, text_fault_by, text_refusal_answer}
use Rattle.cs_cli.proofs.Writings.{rose_from}
use Rattle.cs_shelf.specs.Outside.{Rose}
use Rattle.cs_cli.specs.declared.text_refusal.TextRefusal.{TextRefusal}
use Rattle.cs_cli.specs.declared.text_refusal.TextRefusal.TheVariants as refusal

abbrev Told : Option (List ℕ) → List ℕ → Type 0
Told content bytes = IfSome content (λ held. bytes ≡ held)

has_fault : (content : Option (List ℕ)) (bytes : List ℕ) (f : BuildFault) → Told content bytes → text_fault bytes ≡ Some f → HasTextFault content f
has_fault content bytes f told h = record { bytes = bytes; told = told; is = h }

-- what the builder tells of the bytes that were read
pub text_faulty : (content : Option (List ℕ)) (bytes : List ℕ) (e : BuildError) → Told content bytes → TellsFault (text_fault bytes) e
    → IfSome (text_fault_by e) (HasTextFault content)
text_faulty content bytes error.TooMany told h = has_fault content bytes _ told h
text_faulty content bytes (error.BadLine line) told h = has_fault content bytes _ told h
text_faulty content bytes (error.Twice line) told h = has_fault content bytes _ told h
text_faulty content bytes (error.BadRange line) told h = has_fault content bytes _ told h
text_faulty content bytes (error.BadName line) told h = has_fault content bytes _ told h
text_faulty content bytes error.NoMemory told h = tt

-- a file that is longer than a text may be
long_text : (bytes : List ℕ) → 16777216 < length bytes → text_fault bytes ≡ Some TooMany
unfolding text_fault
long_text bytes long =
    let is : is_too_much bytes ≡ true = grind (arith, nat_tests, long) in
    rw is refl

some_long : (n : ℕ) → 16777216 < n → HasTextFault None TooMany
some_long n long = has_fault None (replicate n 0) TooMany tt (long_text (replicate n 0) (omega (arith, long, length-replicate {A = ℕ} n 0)))

pub text_too_long : (content : Option (List ℕ)) → IfSome content (λ held. 16777216 < length held) → HasTextFault content TooMany
text_too_long None long = some_long 16777217 (omega arith)
text_too_long (Some held) long = has_fault (Some held) held TooMany refl (long_text held long)

fault_told : (file : List ℕ) (o : Options) (shelf : Reading) (saving : Saving) (out : Writing) (status : ℕ) (f : Option BuildFault)
    → IfSome f (HasTextFault (shelf.content file)) → Printed (option_map_or refused_text f no_memory) out status → BuildAnswered file o shelf saving out status
fault_told file o shelf saving out status None h printed = answer.build_memory printed
fault_told file o shelf saving out status (Some fault) h printed = answer.text_refused fault h printed

pub text_refused_by : (file : List ℕ) (o : Options) (shelf : Reading) (saving : Saving) (out : Writing) (status : ℕ) (why : TextRefusal)
    → Builds file shelf (Err why) → Printed (text_refusal_answer file why) out status → BuildAnswered file o shelf saving out status
text_refused_by file o shelf saving out status refusal.Read h printed = answer.text_unread h printed
text_refused_by file o shelf saving out status (refusal.Text e) h printed = fault_told file o shelf saving out status (text_fault_by e) h printed

-- what is saved behind a first reading, which takes nothing and changes no content
pub saved_from : (name bytes : List ℕ) (a b : Answer) (s t : Reading) (u v : Saving) (out : Writing) (status : ℕ) → a ≡ b → s.before ≤ t.before → s.behind ≡ t.behind → s.last ≡ t.last
    → v.old ≡ u.old → v.new ≡ u.new → v.held ≡ u.held → Saved name bytes a t v out status → Saved name bytes b s u out status
saved_from name bytes a b s t u v out status same le behind last old new held (answer.held h printed) =
    answer.held (ap (λ (f : List ℕ → Option (List ℕ)). f name) (sym held) ∙ h ∙ ap (option_map (λ (taken : List ℕ). bytes)) old) (subst (λ x. Printed x out status) same printed)
saved_from name bytes a b s t u v out status same le behind last old new held (answer.unsaved f) = answer.unsaved (record {
  status_is = f.status_is;
  rose = rose_from s.before t.before s.behind le (subst (Rose t.before) (sym behind) f.rose);
  last = last ∙ f.last;
  count = f.count;
  part = sym new ∙ f.part ∙ ap (option_map (λ (taken : List ℕ). take f.count bytes)) old;
  nothing = f.nothing;
})
