use Rattle.std.proofs.Common.{List, ℕ, ◌+◌, [], Some, refl, sym, subst, arith, ◌∙◌}
use Rattle.par_pool.specs.Spelling.{IsText}
use Rattle.par_compile.specs.declared.draft.Draft.{Draft}
use Rattle.par_compile.specs.Drafts.{PutsMember}
use Rattle.par_compile.specs.Growing.{IsEither}
use Rattle.par_compile.specs.Own.{method_in, code_entries, code_classes}
use Rattle.par_compile.proofs.Texts.{name_text, method_text}
use Rattle.par_compile.proofs.Growing.{extends, leaves_then, room_now, room_smaller, room_alone}
use Rattle.par_framing.specs.par_frames.Room.{SPARE}
use Rattle.par_compile.proofs.Members.{puts_member, small_access, access_coded}
use Rattle.par_compile.proofs.methods.put_method.Goals as goal

pub placed-requires-clause-room : goal.placed-requires-clause-room
placed-requires-clause-room c =
    let few = code_entries c.args.frames c.args.plain.now c.args.method.now in
    room_smaller c.args.draft.now.pool ((few + 2) + SPARE) (few + SPARE)
    (code_classes c.args.frames c.args.plain.now c.args.method.now) (omega arith) c.requires.room

pub put-requires-clause-room : goal.put-requires-clause-room
put-requires-clause-room c =
    let few = code_entries c.args.frames c.args.plain.now c.args.method.now in
    let left = c.in_ok-code.ensures.left (2 + SPARE) []
    (room_alone c.args.draft.now.pool ((few + 2) + SPARE) (few + (2 + SPARE))
    (code_classes c.args.frames c.args.plain.now c.args.method.now) (omega arith)
    c.requires.room) in
    omega (arith, room_now c.placed.new.pool (2 + SPARE) [] left)

pub put-requires-clause-name : goal.put-requires-clause-name
put-requires-clause-name c =
    subst IsText (sym c.bytes.ensures.bytes)
    (name_text c.args.method.now.name c.bytes.ensures.spelled)

pub put-requires-clause-descriptor : goal.put-requires-clause-descriptor
put-requires-clause-descriptor c =
    subst IsText (sym (c.as_slice.ensures ∙ c.in_ok-kind.ensures))
    (method_text c.args.plain.now c.requires.named c.args.method.now c.requires.ready.few)

pub returns-clause-puts : goal.returns-clause-puts
returns-clause-puts c =
    let m = method_in c.args.plain.now c.args.method.now in
    let start = c.args.draft.now in
    let mid : Draft = record { pool = c.placed.new.pool; methods = start.methods } in
    let end = c.put.new.self in
    let attr = Some c.in_ok-code.code in
    let puts : PutsMember m.access m.name m.descriptor attr mid end =
    subst (λ (a : ℕ). PutsMember a m.name m.descriptor attr mid end) c.member_access-access.ensures
    (subst (λ (t : List ℕ). PutsMember c.member_access-access.result t m.descriptor attr mid end)
    c.bytes.ensures.bytes
    (subst (λ (t : List ℕ).
    PutsMember c.member_access-access.result c.bytes.result.now t attr mid end)
    (c.as_slice.ensures ∙ c.in_ok-kind.ensures) c.in_ok-put.ensures.puts)) in
    puts_member c.args.frames m attr start mid end refl c.in_ok-code.ensures.grows
    c.in_ok-code.ensures.is
    c.in_ok-code.ensures.fits c.in_ok-code.ensures.short
    (small_access c.args.method.now.is_static) (access_coded c.args.method.now.is_static) puts

pub returns-clause-left : goal.returns-clause-left
returns-clause-left c =
    let puts = c.in_ok-put.ensures.puts in
    leaves_then (code_entries c.args.frames c.args.plain.now c.args.method.now) 2
    (code_classes c.args.frames c.args.plain.now c.args.method.now) c.args.draft.now.pool
    c.placed.new.pool
    c.put.new.self.pool c.in_ok-code.ensures.left
    (extends (IsEither c.bytes.result.now c.as_slice.result.now) c.placed.new.pool
    c.put.new.self.pool puts.grows) c.in_ok-put.ensures.few
