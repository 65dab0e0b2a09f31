use Rattle.std.proofs.Common.{Some, arith, refl, sym, subst, ap, ◌∙◌}
use Rattle.std.proofs.lemmas.Bool.{false≢true}
use Rattle.cs_prim_ctx.proofs.Performing.{fails}
use Rattle.cs_prim_obj.specs.Numbers.{HasObjectNumber, takes}
use Rattle.cs_prim_obj.specs.declared.numbers.Primitive.TheVariants.{CharAtPut, ObjectAtPut, SetReadOnly, SlotAtPut, At, Size, CharAt, ObjectAt, SlotAt, Identical, Class, IsReadOnly, Quick}
use Rattle.cs_prim_obj.proofs.Outcomes.{as_row}
use Rattle.cs_prim_obj.proofs.Rows.{listed, other_receiver, quick_first, row_is, taken, uncounted}
use Rattle.cs_prim_obj.proofs.perform.Goals as goal

pub unreachable-requires : goal.unreachable-requires
unreachable-requires g c =
    let s = g.W.World.stored c.args.w.now in
    let k = g.W.World.view c.args.w.now in
    absurd (false≢true (sym c.in_default.ensures ∙ listed k c.args.number c.args.args c.requires.number))

pub returns-then-not-takes : goal.returns-then-not-takes
returns-then-not-takes g c =
    let s = g.W.World.stored c.args.w.now in
    let k = g.W.World.view c.args.w.now in
    fails s (g.W.World.layout c.args.w.now) k _ c.requires.ready (uncounted k c.args.number c.args.args c.in-Some.primitive c.in-Some.ensures (sym c.takes.ensures ∙ c.if-not-takes.true))

pub returns-in-SlotAt : goal.returns-in-SlotAt
returns-in-SlotAt g c =
    let s = g.W.World.stored c.args.w.now in
    let k = g.W.World.view c.args.w.now in
    as_row (row_is k c.args.number c.args.args SlotAt (subst (λ p. HasObjectNumber (Some p) c.args.number) c.in-SlotAt.is c.in-Some.ensures) (ap (λ p. takes p c.args.args) (sym c.in-SlotAt.is) ∙ sym c.takes.ensures ∙ c.if-not-takes.false)) c.slot_at.ensures

pub returns-in-Identical : goal.returns-in-Identical
returns-in-Identical g c =
    let s = g.W.World.stored c.args.w.now in
    let k = g.W.World.view c.args.w.now in
    as_row (row_is k c.args.number c.args.args Identical (subst (λ p. HasObjectNumber (Some p) c.args.number) c.in-Identical.is c.in-Some.ensures) (ap (λ p. takes p c.args.args) (sym c.in-Identical.is) ∙ sym c.takes.ensures ∙ c.if-not-takes.false)) c.identical.ensures

pub returns-in-Class : goal.returns-in-Class
returns-in-Class g c =
    let s = g.W.World.stored c.args.w.now in
    let k = g.W.World.view c.args.w.now in
    as_row (row_is k c.args.number c.args.args Class (subst (λ p. HasObjectNumber (Some p) c.args.number) c.in-Class.is c.in-Some.ensures) (ap (λ p. takes p c.args.args) (sym c.in-Class.is) ∙ sym c.takes.ensures ∙ c.if-not-takes.false)) c.class.ensures

pub returns-in-IsReadOnly : goal.returns-in-IsReadOnly
returns-in-IsReadOnly g c =
    let s = g.W.World.stored c.args.w.now in
    let k = g.W.World.view c.args.w.now in
    as_row (row_is k c.args.number c.args.args IsReadOnly (subst (λ p. HasObjectNumber (Some p) c.args.number) c.in-IsReadOnly.is c.in-Some.ensures) (ap (λ p. takes p c.args.args) (sym c.in-IsReadOnly.is) ∙ sym c.takes.ensures ∙ c.if-not-takes.false)) c.is_unwritable_receiver.ensures

pub returns-in-Quick : goal.returns-in-Quick
returns-in-Quick g c =
    let s = g.W.World.stored c.args.w.now in
    let k = g.W.World.view c.args.w.now in
    as_row (row_is k c.args.number c.args.args Quick (subst (λ p. HasObjectNumber (Some p) c.args.number) c.in-Quick.is c.in-Some.ensures) (ap (λ p. takes p c.args.args) (sym c.in-Quick.is) ∙ sym c.takes.ensures ∙ c.if-not-takes.false)) c.quick.ensures

pub returns-in-At : goal.returns-in-At
returns-in-At g c =
    let s = g.W.World.stored c.args.w.now in
    let k = g.W.World.view c.args.w.now in
    as_row (row_is k c.args.number c.args.args At (subst (λ p. HasObjectNumber (Some p) c.args.number) c.in-At.is c.in-Some.ensures) (ap (λ p. takes p c.args.args) (sym c.in-At.is) ∙ sym c.takes.ensures ∙ c.if-not-takes.false)) c.at.ensures

pub returns-in-Size : goal.returns-in-Size
returns-in-Size g c =
    let s = g.W.World.stored c.args.w.now in
    let k = g.W.World.view c.args.w.now in
    as_row (row_is k c.args.number c.args.args Size (subst (λ p. HasObjectNumber (Some p) c.args.number) c.in-Size.is c.in-Some.ensures) (ap (λ p. takes p c.args.args) (sym c.in-Size.is) ∙ sym c.takes.ensures ∙ c.if-not-takes.false)) c.size.ensures

pub returns-in-CharAt : goal.returns-in-CharAt
returns-in-CharAt g c =
    let s = g.W.World.stored c.args.w.now in
    let k = g.W.World.view c.args.w.now in
    as_row (row_is k c.args.number c.args.args CharAt (subst (λ p. HasObjectNumber (Some p) c.args.number) c.in-CharAt.is c.in-Some.ensures) (ap (λ p. takes p c.args.args) (sym c.in-CharAt.is) ∙ sym c.takes.ensures ∙ c.if-not-takes.false)) c.char_at.ensures

pub returns-in-ObjectAt : goal.returns-in-ObjectAt
returns-in-ObjectAt g c =
    let s = g.W.World.stored c.args.w.now in
    let k = g.W.World.view c.args.w.now in
    as_row (row_is k c.args.number c.args.args ObjectAt (subst (λ p. HasObjectNumber (Some p) c.args.number) c.in-ObjectAt.is c.in-Some.ensures) (ap (λ p. takes p c.args.args) (sym c.in-ObjectAt.is) ∙ sym c.takes.ensures ∙ c.if-not-takes.false)) c.object_at.ensures

pub returns-in-CharAtPut : goal.returns-in-CharAtPut
returns-in-CharAtPut g c =
    let s = g.W.World.stored c.args.w.now in
    let k = g.W.World.view c.args.w.now in
    as_row (row_is k c.args.number c.args.args CharAtPut (subst (λ p. HasObjectNumber (Some p) c.args.number) c.in-CharAtPut.is c.in-Some.ensures) (ap (λ p. takes p c.args.args) (sym c.in-CharAtPut.is) ∙ sym c.takes.ensures ∙ c.if-not-takes.false)) c.char_at_put.ensures

pub returns-in-ObjectAtPut : goal.returns-in-ObjectAtPut
returns-in-ObjectAtPut g c =
    let s = g.W.World.stored c.args.w.now in
    let k = g.W.World.view c.args.w.now in
    as_row (row_is k c.args.number c.args.args ObjectAtPut (subst (λ p. HasObjectNumber (Some p) c.args.number) c.in-ObjectAtPut.is c.in-Some.ensures) (ap (λ p. takes p c.args.args) (sym c.in-ObjectAtPut.is) ∙ sym c.takes.ensures ∙ c.if-not-takes.false)) c.object_at_put.ensures

pub returns-in-SetReadOnly : goal.returns-in-SetReadOnly
returns-in-SetReadOnly g c =
    let s = g.W.World.stored c.args.w.now in
    let k = g.W.World.view c.args.w.now in
    as_row (row_is k c.args.number c.args.args SetReadOnly (subst (λ p. HasObjectNumber (Some p) c.args.number) c.in-SetReadOnly.is c.in-Some.ensures) (ap (λ p. takes p c.args.args) (sym c.in-SetReadOnly.is) ∙ sym c.takes.ensures ∙ c.if-not-takes.false)) c.set_read_only.ensures

pub returns-in-SlotAtPut : goal.returns-in-SlotAtPut
returns-in-SlotAtPut g c =
    let s = g.W.World.stored c.args.w.now in
    let k = g.W.World.view c.args.w.now in
    as_row (row_is k c.args.number c.args.args SlotAtPut (subst (λ p. HasObjectNumber (Some p) c.args.number) c.in-SlotAtPut.is c.in-Some.ensures) (ap (λ p. takes p c.args.args) (sym c.in-SlotAtPut.is) ∙ sym c.takes.ensures ∙ c.if-not-takes.false)) c.slot_at_put.ensures

pub slot_at_put-requires-clause-other : goal.slot_at_put-requires-clause-other
slot_at_put-requires-clause-other g c =
    let s = g.W.World.stored c.args.w.now in
    let k = g.W.World.view c.args.w.now in
    other_receiver k c.args.number c.args.args c.requires.number (subst (λ p. HasObjectNumber (Some p) c.args.number) c.in-SlotAtPut.is c.in-Some.ensures) (taken SlotAtPut c.args.args 2 refl (ap (λ p. takes p c.args.args) (sym c.in-SlotAtPut.is) ∙ sym c.takes.ensures ∙ c.if-not-takes.false))

pub char_at_put-requires-clause-there : goal.char_at_put-requires-clause-there
char_at_put-requires-clause-there g c =
    let args = taken CharAtPut c.args.args 2 refl (ap (λ p. takes p c.args.args) (sym c.in-CharAtPut.is) ∙ sym c.takes.ensures ∙ c.if-not-takes.false) in
    omega (arith, args, c.requires.there)

pub object_at_put-requires-clause-there : goal.object_at_put-requires-clause-there
object_at_put-requires-clause-there g c =
    let args = taken ObjectAtPut c.args.args 2 refl (ap (λ p. takes p c.args.args) (sym c.in-ObjectAtPut.is) ∙ sym c.takes.ensures ∙ c.if-not-takes.false) in
    omega (arith, args, c.requires.there)

pub set_read_only-requires-clause-there : goal.set_read_only-requires-clause-there
set_read_only-requires-clause-there g c =
    let args = taken SetReadOnly c.args.args 1 refl (ap (λ p. takes p c.args.args) (sym c.in-SetReadOnly.is) ∙ sym c.takes.ensures ∙ c.if-not-takes.false) in
    omega (arith, args, c.requires.there)

pub slot_at_put-requires-clause-there : goal.slot_at_put-requires-clause-there
slot_at_put-requires-clause-there g c =
    let args = taken SlotAtPut c.args.args 2 refl (ap (λ p. takes p c.args.args) (sym c.in-SlotAtPut.is) ∙ sym c.takes.ensures ∙ c.if-not-takes.false) in
    omega (arith, args, c.requires.there)

pub at-requires-clause-there : goal.at-requires-clause-there
at-requires-clause-there g c =
    let args = taken At c.args.args 1 refl (ap (λ p. takes p c.args.args) (sym c.in-At.is) ∙ sym c.takes.ensures ∙ c.if-not-takes.false) in
    omega (arith, args, c.requires.there)

pub size-requires-clause-there : goal.size-requires-clause-there
size-requires-clause-there g c =
    let args = taken Size c.args.args 0 refl (ap (λ p. takes p c.args.args) (sym c.in-Size.is) ∙ sym c.takes.ensures ∙ c.if-not-takes.false) in
    omega (arith, args, c.requires.there)

pub char_at-requires-clause-there : goal.char_at-requires-clause-there
char_at-requires-clause-there g c =
    let args = taken CharAt c.args.args 1 refl (ap (λ p. takes p c.args.args) (sym c.in-CharAt.is) ∙ sym c.takes.ensures ∙ c.if-not-takes.false) in
    omega (arith, args, c.requires.there)

pub object_at-requires-clause-there : goal.object_at-requires-clause-there
object_at-requires-clause-there g c =
    let args = taken ObjectAt c.args.args 1 refl (ap (λ p. takes p c.args.args) (sym c.in-ObjectAt.is) ∙ sym c.takes.ensures ∙ c.if-not-takes.false) in
    omega (arith, args, c.requires.there)

pub slot_at-requires-clause-there : goal.slot_at-requires-clause-there
slot_at-requires-clause-there g c =
    let args = taken SlotAt c.args.args 1 refl (ap (λ p. takes p c.args.args) (sym c.in-SlotAt.is) ∙ sym c.takes.ensures ∙ c.if-not-takes.false) in
    omega (arith, args, c.requires.there)

pub identical-requires-clause-there : goal.identical-requires-clause-there
identical-requires-clause-there g c =
    let args = taken Identical c.args.args 1 refl (ap (λ p. takes p c.args.args) (sym c.in-Identical.is) ∙ sym c.takes.ensures ∙ c.if-not-takes.false) in
    omega (arith, args, c.requires.there)

pub class-requires-clause-there : goal.class-requires-clause-there
class-requires-clause-there g c =
    let args = taken Class c.args.args 0 refl (ap (λ p. takes p c.args.args) (sym c.in-Class.is) ∙ sym c.takes.ensures ∙ c.if-not-takes.false) in
    omega (arith, args, c.requires.there)

pub is_unwritable_receiver-requires-clause-there : goal.is_unwritable_receiver-requires-clause-there
is_unwritable_receiver-requires-clause-there g c =
    let args = taken IsReadOnly c.args.args 0 refl (ap (λ p. takes p c.args.args) (sym c.in-IsReadOnly.is) ∙ sym c.takes.ensures ∙ c.if-not-takes.false) in
    omega (arith, args, c.requires.there)

pub quick-requires-clause-first : goal.quick-requires-clause-first
quick-requires-clause-first g c = quick_first c.args.number (subst (λ p. HasObjectNumber (Some p) c.args.number) c.in-Quick.is c.in-Some.ensures)
