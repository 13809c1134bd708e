use Rattle.std.proofs.Common.{◌≡◌, ℕ, ◌+◌, List, [], ◌∷◌, ◌++◌, refl, sym, ap, subst, ◌∙◌, arith}
use Rattle.par_class.specs.declared.file.Attribute.{Attribute}
use Rattle.par_frames.specs.Names.{classes_named}
use Rattle.par_frames.specs.Room.{SPARE}
use Rattle.par_frames.specs.Attribute.{IsAttribute}
use Rattle.par_kinds.specs.declared.frame.VKind.{VKind}
use Rattle.par_compile_laws.specs.Framed.{kinds_of}
use Rattle.par_framing.proofs.Kept.{room_behind, room_skipped}
use Rattle.par_framing.proofs.Tables.{name_kept, no_tables, one_table, table_fits, none_fit}
use Rattle.par_framing.proofs.Tables.{table_none, table_first, table_then}
use Rattle.par_framing.proofs.attribute.table_of.Goals as goal

pub utf8-requires-clause-room : goal.utf8-requires-clause-room
utf8-requires-clause-room c = omega (arith, c.requires.room.room)

pub write_frames-requires-clause-room : goal.write_frames-requires-clause-room
write_frames-requires-clause-room c =
    let a = c.in_ok-name.ensures.added in
    room_behind c.args.pool.now c.utf8-2.new.self a.more a.behind 1 (1 + SPARE) SPARE a.number
    (omega arith) (classes_named c.args.frames.now.at) c.requires.room

pub returns-then-len-eq0-clause-are : goal.returns-then-len-eq0-clause-are
returns-then-len-eq0-clause-are c =
    no_tables c.args.pool.now c.args.code.now c.args.frames.now.at c.new.result
    (omega (arith, c.len.ensures, c.if-len-eq0.true)) c.new.ensures

pub returns-then-len-eq0-clause-fit : goal.returns-then-len-eq0-clause-fit
returns-then-len-eq0-clause-fit c = λ sized.
    none_fit c.args.pool.now c.new.result c.new.ensures

pub returns-then-len-eq0-clause-room : goal.returns-then-len-eq0-clause-room
returns-then-len-eq0-clause-room c = λ spare later h.
    room_skipped c.args.pool.now spare (classes_named c.args.frames.now.at) later h

pub returns-then-len-eq0-clause-added : goal.returns-then-len-eq0-clause-added
returns-then-len-eq0-clause-added c =
    table_none c.args.pool.now (classes_named c.args.frames.now.at)

pub returns-in_err-name-clause-added : goal.returns-in_err-name-clause-added
returns-in_err-name-clause-added c =
    table_first c.args.pool.now c.utf8-2.new.self (classes_named c.args.frames.now.at)
    c.in_err-name.ensures.added

pub returns-in_err-start-clause-added : goal.returns-in_err-start-clause-added
returns-in_err-start-clause-added c =
    table_first c.args.pool.now c.utf8-2.new.self (classes_named c.args.frames.now.at)
    c.in_ok-name.ensures.added

pub returns-in_err-bytes-clause-added : goal.returns-in_err-bytes-clause-added
returns-in_err-bytes-clause-added c =
    table_then c.args.pool.now c.utf8-2.new.self c.write_frames.new.pool
    (classes_named c.args.frames.now.at) c.in_ok-name.ensures.added c.in_err-bytes.ensures.added

pub returns-in_err-push-clause-added : goal.returns-in_err-push-clause-added
returns-in_err-push-clause-added c =
    table_then c.args.pool.now c.utf8-2.new.self c.write_frames.new.pool
    (classes_named c.args.frames.now.at) c.in_ok-name.ensures.added c.in_ok-bytes.ensures.added

pub returns-clause-added : goal.returns-clause-added
returns-clause-added c =
    table_then c.args.pool.now c.utf8-2.new.self c.write_frames.new.pool
    (classes_named c.args.frames.now.at) c.in_ok-name.ensures.added c.in_ok-bytes.ensures.added

pub returns-clause-room : goal.returns-clause-room
returns-clause-room c = λ spare later h.
    let a = c.in_ok-name.ensures.added in
    c.in_ok-bytes.ensures.room spare later
    (room_behind c.args.pool.now c.utf8-2.new.self a.more a.behind 1 (1 + spare) spare a.number
    refl (classes_named c.args.frames.now.at ++ later) h)

pub returns-clause-are : goal.returns-clause-are
returns-clause-are c =
    let table : Attribute = record { name = c.in_ok-name.name; bytes = c.wrap.result } in
    let pool = c.write_frames.new.pool in
    let start : c.as_slice-2.result.now ≡ kinds_of c.args.code.now.start =
    c.as_slice-2.ensures ∙ (c.in_ok-start.ensures ∙ ap kinds_of c.as_slice.ensures) in
    one_table pool c.args.code.now c.args.frames.now.at c.push.new.self table
    (omega (arith, c.len.ensures, c.if-len-eq0.false))
    (c.in_ok-push.ensures.ok ∙ ap (λ xs. xs ++ table ∷ []) c.new-attributes.ensures)
    (name_kept c.utf8-2.new.self pool (classes_named c.args.frames.now.at) c.in_ok-name.name
    c.in_ok-bytes.ensures.added c.in_ok-name.ensures.named)
    (subst (λ (ks : List VKind). IsAttribute pool ks c.args.frames.now.at c.wrap.result) start
    (subst (λ (bs : List ℕ). IsAttribute pool c.as_slice-2.result.now c.args.frames.now.at bs)
    (sym c.wrap.ensures) c.in_ok-bytes.ensures.attribute))

pub returns-clause-fit : goal.returns-clause-fit
returns-clause-fit c = λ sized.
    let table : Attribute = record { name = c.in_ok-name.name; bytes = c.wrap.result } in
    let pool = c.write_frames.new.pool in
    table_fits pool c.push.new.self table
    (c.in_ok-push.ensures.ok ∙ ap (λ xs. xs ++ table ∷ []) c.new-attributes.ensures)
    (name_kept c.utf8-2.new.self pool (classes_named c.args.frames.now.at) c.in_ok-name.name
    c.in_ok-bytes.ensures.added c.in_ok-name.ensures.named)
    (omega arith) sized
