use Rattle.std.proofs.Common.{[], ◌∷◌, map, true, false}
use Rattle.par_erase.specs.Shown.{class_info}
use Rattle.par_compile_laws.specs.Members.{initializer}
use Rattle.par_compile.specs.Own.{channel_in}
use Rattle.par_compile.proofs.Gathered.{members_put, members_room}
use Rattle.par_compile.proofs.methods.put_members.Goals as goal

pub put_methods-requires-clause-room : goal.put_methods-requires-clause-room
put_methods-requires-clause-room c =
    members_room c.args.frames c.args.plain.now c.args.class.now c.as_slice.result.now
    c.as_slice-2.result.now c.as_slice-3.result.now
    (initializer (class_info c.args.class.now) ∷ [])
    (map (channel_in true) c.as_slice.result.now)
    (map (channel_in false) c.as_slice-2.result.now)
    c.args.draft.now c.put_initializer.new.draft c.put_channels.new.draft
    c.put_channels-2.new.draft c.as_slice.ensures c.as_slice-2.ensures
    c.as_slice-3.ensures (c.in_ok-put_initializer.ensures.puts c.args.frames)
    (c.in_ok-put_channels.ensures.puts c.args.frames)
    (c.in_ok-put_channels-2.ensures.puts c.args.frames)
    c.in_ok-put_initializer.ensures.few c.in_ok-put_channels.ensures.few
    c.in_ok-put_channels-2.ensures.few c.requires.room

pub returns : goal.returns
returns c =
    members_put c.args.frames c.args.plain.now c.args.class.now c.as_slice.result.now
    c.as_slice-2.result.now c.as_slice-3.result.now
    c.args.draft.now c.put_initializer.new.draft c.put_channels.new.draft
    c.put_channels-2.new.draft c.put_methods.new.draft c.as_slice.ensures
    c.as_slice-2.ensures c.as_slice-3.ensures (c.in_ok-put_initializer.ensures.puts c.args.frames)
    (c.in_ok-put_channels.ensures.puts c.args.frames)
    (c.in_ok-put_channels-2.ensures.puts c.args.frames)
    c.in_ok-put_methods.ensures
