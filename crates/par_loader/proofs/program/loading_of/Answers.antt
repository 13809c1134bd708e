use Rattle.std.proofs.Common.{Option, Ok, Err, refl, sym, ap, subst, ◌∙◌, arith}
use Rattle.std.proofs.lemmas.Result.{err_from_is_err_and}
use Rattle.std.specs.List.{list_any}
use Rattle.std.specs.Str.{bytes_eq}
use Rattle.par_io.specs.Causes.{Files}
use Rattle.par_single.specs.Members.{own_name, own_names}
use Rattle.par_loader.specs.declared.error.Unloaded.{Unloaded}
use Rattle.par_loader.specs.Reads.{Text, WasFound}
use Rattle.par_loader.specs.Loaded.{step}
use Rattle.par_loader.specs.Ends.{IsRead, Steps, Loads}
use Rattle.par_loader.specs.Mentions.{naming, next_named}
use Rattle.par_loader.proofs.Unread.{unread_is_new, no_map}
use Rattle.par_loader.proofs.Ended.{loads_lacks}
use Rattle.par_loader.proofs.Loop.{begins, goes, fails, lacks, ends_named, ends_read}
use Rattle.par_loader.proofs.Loop.{all_spelled}
use Rattle.par_loader.proofs.program.loading_of.Goals as goal

pub returns-in_err-loading-clause-loads : goal.returns-in_err-loading-clause-loads
returns-in_err-loading-clause-loads g c =
    loads_lacks (g.F.Folder.files c.args.folder.now) _
    (g.F.Folder.counts c.args.folder.now) c.from_residual.result c.from_residual.ensures.1

pub loop-init : goal.loop-init
loop-init g c = (
  refl,
  (λ alone. refl),
  begins (g.F.Folder.files c.args.folder.now) c.args.file c.in_ok-loading.loading.files
      (g.F.Folder.counts c.args.folder.now) c.requires.read c.in_ok-loading.ensures,
)

pub returns-in_default-clause-loads : goal.returns-in_default-clause-loads
returns-in_default-clause-loads g c =
    ends_named (g.F.Folder.files c.args.folder.now) _ c.loop.loading c.loop.counter
    (g.F.Folder.counts c.args.folder.now) (g.F.Folder.counts c.loop.folder) c.loop.invariant.2
    (no_map naming c.next.result
    (next_named c.loop.loading.files) c.in_default.not-Some c.next.ensures.first)

pub returns-in_err-file-clause-loads : goal.returns-in_err-file-clause-loads
returns-in_err-file-clause-loads g c =
    let files = g.F.Folder.files c.args.folder.now in
    let before = g.F.Folder.counts c.args.folder.now in
    let after = g.F.Folder.counts c.named_file.new.folder in
    let main = own_name c.args.file in
    let m = naming c.in-Some.mention in
    let e = c.in_err-file.field-0.0 in
    let stepped =
    subst (λ (fs : Option Files). (o : Option Text) × WasFound fs m.name o
    × Steps (step m o) (g.F.Folder.counts c.loop.folder) after (Err e)) c.loop.invariant.0
    c.in_err-file.ensures.step in
    let all : Loads files main before after (Err e) =
    fails files c.args.file c.loop.loading.files c.loop.counter before
    (g.F.Folder.counts c.loop.folder) after c.loop.invariant.2 (omega (arith, c.loop-test.true)) m
    (sym c.in-Some.ensures.first) e stepped in
    let back =
    err_from_is_err_and c.from_residual-in_err-file.result c.from_residual-in_err-file.ensures.1 in
    subst (Loads files main before after) (sym back.1)
    (subst (λ (x : Unloaded). Loads files main before after (Err x)) (sym back.2) all)

pub with-requires-clause-unread : goal.with-requires-clause-unread
with-requires-clause-unread g c =
    ap (λ (n : Text). list_any (bytes_eq n) (own_names c.loop.loading.files))
    c.in_ok-file.ensures.own
    ∙ unread_is_new c.loop.loading.files (naming c.in-Some.mention) (sym c.in-Some.ensures.first)

pub returns-in_err-loading-2-clause-loads : goal.returns-in_err-loading-2-clause-loads
returns-in_err-loading-2-clause-loads g c =
    let files = g.F.Folder.files c.args.folder.now in
    let before = g.F.Folder.counts c.args.folder.now in
    let after = g.F.Folder.counts c.named_file.new.folder in
    let m = naming c.in-Some.mention in
    let f = c.in_ok-file.file in
    let stepped =
    subst (λ (fs : Option Files). (o : Option Text) × WasFound fs m.name o
    × Steps (step m o) (g.F.Folder.counts c.loop.folder) after (Ok f)) c.loop.invariant.0
    c.in_ok-file.ensures.step in
    lacks files c.args.file c.loop.loading.files c.loop.counter before
    (g.F.Folder.counts c.loop.folder) after c.loop.invariant.2 (omega (arith, c.loop-test.true)) m
    (sym c.in-Some.ensures.first)
    f c.from_residual-in_err-loading-2.result stepped c.from_residual-in_err-loading-2.ensures.1

pub loop-preserved : goal.loop-preserved
loop-preserved g c =
    let files = g.F.Folder.files c.args.folder.now in
    let before = g.F.Folder.counts c.args.folder.now in
    let after = g.F.Folder.counts c.named_file.new.folder in
    let m = naming c.in-Some.mention in
    let f = c.in_ok-file.file in
    let stepped =
    subst (λ (fs : Option Files). (o : Option Text) × WasFound fs m.name o
    × Steps (step m o) (g.F.Folder.counts c.loop.folder) after (Ok f)) c.loop.invariant.0
    c.in_ok-file.ensures.step in
    let read = subst (λ (fs : Option Files). IsRead fs f) c.loop.invariant.0
    c.in_ok-file.ensures.read in (
      c.named_file.ensures.kept ∙ c.loop.invariant.0,
      (λ alone. c.in_ok-file.ensures.faults_are_told alone ∙ c.loop.invariant.1 alone),
      goes files c.args.file c.loop.loading.files c.loop.counter before
          (g.F.Folder.counts c.loop.folder) after c.loop.invariant.2
          (omega (arith, c.loop-test.true)) m (sym c.in-Some.ensures.first)
          f c.in_ok-loading-2.loading.files stepped c.in_ok-file.ensures.own
          read c.named_file.ensures.none_falls c.in_ok-loading-2.ensures,
    )

pub returns-clause-loads : goal.returns-clause-loads
returns-clause-loads g c =
    ends_read (g.F.Folder.files c.args.folder.now) _ c.loop.loading c.loop.counter
    (g.F.Folder.counts c.args.folder.now) (g.F.Folder.counts c.loop.folder) c.loop.invariant.2
    (omega (arith, c.loop-test.false))

pub next-requires : goal.next-requires
next-requires g c =
    all_spelled (g.F.Folder.files c.args.folder.now) c.loop.loading.files c.loop.invariant.2.read
