use Rattle.std.proofs.Common.{ℕ, ◌+◌, ◌*◌, ap, arith}
use Rattle.cs_frame.specs.declared.PageHead.{PageHead}
use Rattle.cs_frame.proofs.Pages.{opened, page_count}
use Rattle.cs_frame.proofs.Builds.{callable, Begins, room_for, built_by, build_done, built_top, end_with}
use Rattle.cs_frame.proofs.Frames.build.Goals as goal

pub index-head-requires : goal.index-head-requires
index-head-requires c =
    let lt = page_count c.self.invariant c.self.view_is c.args.page c.requires.page in
    search (lt, arith)

pub overflow_mul-first : goal.overflow_mul-first
overflow_mul-first c =
    let h = c.index-head.result.now in
    let o = opened c.self.invariant c.self.view_is c.args.page c.requires.page c.index-head.ensures in
    record { fits = omega (arith, o.few) }

pub begin_of-begin-requires : goal.begin_of-begin-requires
begin_of-begin-requires c =
    let h = c.index-head.result.now in
    let o = opened c.self.invariant c.self.view_is c.args.page c.requires.page c.index-head.ensures in
    record { caller = λ some. callable o c.args.new.args c.requires.caller some }

pub overflow_add-stack : goal.overflow_add-stack
overflow_add-stack c =
    let h = c.index-head.result.now in
    let o = opened c.self.invariant c.self.view_is c.args.page c.requires.page c.index-head.ensures in
    let be : Begins h.count (c.args.page * 4096) h.frame h.end c.begin_of-begin.result c.args.new =
    record { lowest = c.begin_of-begin.ensures.base; later = c.begin_of-begin.ensures.later } in
    let r = room_for o c.requires.room c.requires.size c.requires.caller be in
    record { fits = omega (arith, r.begin_high, o.fits, o.small, o.high) }

pub overflow_sub-head : goal.overflow_sub-head
overflow_sub-head c =
    let h = c.index-head.result.now in
    let o = opened c.self.invariant c.self.view_is c.args.page c.requires.page c.index-head.ensures in
    let be : Begins h.count (c.args.page * 4096) h.frame h.end c.begin_of-begin.result c.args.new =
    record { lowest = c.begin_of-begin.ensures.base; later = c.begin_of-begin.ensures.later } in
    let r = room_for o c.requires.room c.requires.size c.requires.caller be in
    r.args_in

pub copy-requires-clause-source : goal.copy-requires-clause-source
copy-requires-clause-source c =
    let h = c.index-head.result.now in
    let o = opened c.self.invariant c.self.view_is c.args.page c.requires.page c.index-head.ensures in
    let be : Begins h.count (c.args.page * 4096) h.frame h.end c.begin_of-begin.result c.args.new =
    record { lowest = c.begin_of-begin.ensures.base; later = c.begin_of-begin.ensures.later } in
    let r = room_for o c.requires.room c.requires.size c.requires.caller be in
    omega (arith, r.args_in, o.high, o.fits)

pub copy-requires-clause-target : goal.copy-requires-clause-target
copy-requires-clause-target c =
    let h = c.index-head.result.now in
    let o = opened c.self.invariant c.self.view_is c.args.page c.requires.page c.index-head.ensures in
    let be : Begins h.count (c.args.page * 4096) h.frame h.end c.begin_of-begin.result c.args.new =
    record { lowest = c.begin_of-begin.ensures.base; later = c.begin_of-begin.ensures.later } in
    let r = room_for o c.requires.room c.requires.size c.requires.caller be in
    omega (arith, r.end_in, o.fits)

pub write_overhead-requires-clause-room : goal.write_overhead-requires-clause-room
write_overhead-requires-clause-room c =
    let h = c.index-head.result.now in
    let o = opened c.self.invariant c.self.view_is c.args.page c.requires.page c.index-head.ensures in
    let be : Begins h.count (c.args.page * 4096) h.frame h.end c.begin_of-begin.result c.args.new =
    record { lowest = c.begin_of-begin.ensures.base; later = c.begin_of-begin.ensures.later } in
    let r = room_for o c.requires.room c.requires.size c.requires.caller be in
    omega (arith, r.end_in, o.fits, c.copy.ensures.len)

pub write_overhead-requires-clause-fits : goal.write_overhead-requires-clause-fits
write_overhead-requires-clause-fits c =
    let h = c.index-head.result.now in
    let o = opened c.self.invariant c.self.view_is c.args.page c.requires.page c.index-head.ensures in
    let be : Begins h.count (c.args.page * 4096) h.frame h.end c.begin_of-begin.result c.args.new =
    record { lowest = c.begin_of-begin.ensures.base; later = c.begin_of-begin.ensures.later } in
    let r = room_for o c.requires.room c.requires.size c.requires.caller be in
    omega (arith, o.small, c.copy.ensures.len)

pub write_overhead-requires-clause-link : goal.write_overhead-requires-clause-link
write_overhead-requires-clause-link c =
    let h = c.index-head.result.now in
    let o = opened c.self.invariant c.self.view_is c.args.page c.requires.page c.index-head.ensures in
    let be : Begins h.count (c.args.page * 4096) h.frame h.end c.begin_of-begin.result c.args.new =
    record { lowest = c.begin_of-begin.ensures.base; later = c.begin_of-begin.ensures.later } in
    let r = room_for o c.requires.room c.requires.size c.requires.caller be in
    omega (arith, r.caller_in, o.high, o.few)

pub fill_nil-requires-clause-room : goal.fill_nil-requires-clause-room
fill_nil-requires-clause-room c =
    let h = c.index-head.result.now in
    let o = opened c.self.invariant c.self.view_is c.args.page c.requires.page c.index-head.ensures in
    let be : Begins h.count (c.args.page * 4096) h.frame h.end c.begin_of-begin.result c.args.new =
    record { lowest = c.begin_of-begin.ensures.base; later = c.begin_of-begin.ensures.later } in
    let r = room_for o c.requires.room c.requires.size c.requires.caller be in
    omega (arith, r.end_in, o.fits, c.copy.ensures.len, c.write_overhead.ensures.outside.len)

pub fill_nil-requires-clause-fits : goal.fill_nil-requires-clause-fits
fill_nil-requires-clause-fits c =
    let h = c.index-head.result.now in
    let o = opened c.self.invariant c.self.view_is c.args.page c.requires.page c.index-head.ensures in
    let be : Begins h.count (c.args.page * 4096) h.frame h.end c.begin_of-begin.result c.args.new =
    record { lowest = c.begin_of-begin.ensures.base; later = c.begin_of-begin.ensures.later } in
    let r = room_for o c.requires.room c.requires.size c.requires.caller be in
    omega (arith, o.small, c.copy.ensures.len, c.write_overhead.ensures.outside.len)

pub overflow_add-head : goal.overflow_add-head
overflow_add-head c =
    let h = c.index-head.result.now in
    let o = opened c.self.invariant c.self.view_is c.args.page c.requires.page c.index-head.ensures in
    let be : Begins h.count (c.args.page * 4096) h.frame h.end c.begin_of-begin.result c.args.new =
    record { lowest = c.begin_of-begin.ensures.base; later = c.begin_of-begin.ensures.later } in
    let r = room_for o c.requires.room c.requires.size c.requires.caller be in
    record { fits = omega (arith, r.few) }

pub index_mut-requires : goal.index_mut-requires
index_mut-requires c =
    let lt = page_count c.self.invariant c.self.view_is c.args.page c.requires.page in
    search (lt, arith)

pub overflow_sub-result : goal.overflow_sub-result
overflow_sub-result c =
    let h = c.index-head.result.now in
    let o = opened c.self.invariant c.self.view_is c.args.page c.requires.page c.index-head.ensures in
    let be : Begins h.count (c.args.page * 4096) h.frame h.end c.begin_of-begin.result c.args.new =
    record { lowest = c.begin_of-begin.ensures.base; later = c.begin_of-begin.ensures.later } in
    let r = room_for o c.requires.room c.requires.size c.requires.caller be in
    r.begin_low

pub invariant_of-self : goal.invariant_of-self
invariant_of-self c =
    let h = c.index-head.result.now in
    let be : Begins h.count (c.args.page * 4096) h.frame h.end c.begin_of-begin.result c.args.new =
    record { lowest = c.begin_of-begin.ensures.base; later = c.begin_of-begin.ensures.later } in
    let x = built_by h.end c.copy.ensures.len c.copy.ensures.copied c.copy.ensures.below c.copy.ensures.above
    c.write_overhead.ensures.outside c.write_overhead.ensures.overhead c.fill_nil.ensures.outside c.fill_nil.ensures.nils in
    let d = build_done c.self.invariant c.self.view_is c.args.page c.requires.page c.index-head.ensures
    c.requires.room c.requires.size c.requires.caller c.requires.values be x in
    d.0

pub returns-clause-made : goal.returns-clause-made
returns-clause-made c =
    let h = c.index-head.result.now in
    let be : Begins h.count (c.args.page * 4096) h.frame h.end c.begin_of-begin.result c.args.new =
    record { lowest = c.begin_of-begin.ensures.base; later = c.begin_of-begin.ensures.later } in
    let x = built_by h.end c.copy.ensures.len c.copy.ensures.copied c.copy.ensures.below c.copy.ensures.above
    c.write_overhead.ensures.outside c.write_overhead.ensures.overhead c.fill_nil.ensures.outside c.fill_nil.ensures.nils in
    let d = build_done c.self.invariant c.self.view_is c.args.page c.requires.page c.index-head.ensures
    c.requires.room c.requires.size c.requires.caller c.requires.values be x in
    d.1

pub returns-clause-frame : goal.returns-clause-frame
returns-clause-frame c =
    let h = c.index-head.result.now in
    let o = opened c.self.invariant c.self.view_is c.args.page c.requires.page c.index-head.ensures in
    let be : Begins h.count (c.args.page * 4096) h.frame h.end c.begin_of-begin.result c.args.new =
    record { lowest = c.begin_of-begin.ensures.base; later = c.begin_of-begin.ensures.later } in
    let x = built_by h.end c.copy.ensures.len c.copy.ensures.copied c.copy.ensures.below c.copy.ensures.above
    c.write_overhead.ensures.outside c.write_overhead.ensures.overhead c.fill_nil.ensures.outside c.fill_nil.ensures.nils in
    let d = build_done c.self.invariant c.self.view_is c.args.page c.requires.page c.index-head.ensures
    c.requires.room c.requires.size c.requires.caller c.requires.values be x in
    let new : PageHead = record { frame = c.begin_of-begin.result.frame; end = end_with c.begin_of-begin.result c.args.new; count = h.count + 1 } in
    let t = built_top c.self.inside.heads.items new d.0 o.page_in (omega arith) in
    ap (λ (a : ℕ). record { page = c.args.page; at = a }) t.1

pub returns-clause-top : goal.returns-clause-top
returns-clause-top c =
    let h = c.index-head.result.now in
    let o = opened c.self.invariant c.self.view_is c.args.page c.requires.page c.index-head.ensures in
    let be : Begins h.count (c.args.page * 4096) h.frame h.end c.begin_of-begin.result c.args.new =
    record { lowest = c.begin_of-begin.ensures.base; later = c.begin_of-begin.ensures.later } in
    let x = built_by h.end c.copy.ensures.len c.copy.ensures.copied c.copy.ensures.below c.copy.ensures.above
    c.write_overhead.ensures.outside c.write_overhead.ensures.overhead c.fill_nil.ensures.outside c.fill_nil.ensures.nils in
    let d = build_done c.self.invariant c.self.view_is c.args.page c.requires.page c.index-head.ensures
    c.requires.room c.requires.size c.requires.caller c.requires.values be x in
    let new : PageHead = record { frame = c.begin_of-begin.result.frame; end = end_with c.begin_of-begin.result c.args.new; count = h.count + 1 } in
    let t = built_top c.self.inside.heads.items new d.0 o.page_in (omega arith) in
    t
