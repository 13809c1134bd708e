-- The attribute of frames, and what the pool gains by it.
use Rattle.std.proofs.Common.{◌≡◌, ℕ, ◌<◌, ◌^◌, Bool, true, List, [], ◌∷◌, ◌++◌}
use Rattle.std.proofs.Common.{length, sym, ap, subst, ◌∙◌, arith, inl, inr, append_assoc}
use Rattle.std.specs.Prelude.{Contains}
use Rattle.std.proofs.lemmas.List.{append-nil}
use Rattle.std.proofs.lemmas.List.Elements.{All-nil, All-append, All-weaker}
use Rattle.par_pool.specs.declared.constant.Constant.{Constant}
use Rattle.par_pool.specs.declared.constant.Constant.TheVariants.{Utf8}
use Rattle.par_pool.specs.Entries.{IsUtf8At}
use Rattle.par_pool.specs.Growth.{Adds, IsClassPart}
use Rattle.par_pool.specs.Spelling.{is_text}
use Rattle.par_pool.proofs.Growth.{at-append}
use Rattle.par_class.specs.declared.file.Attribute.{Attribute}
use Rattle.par_class.specs.Spelling.{FitsAttribute, AllFit}
use Rattle.par_values.specs.Areas.{Name}
use Rattle.par_code_form.specs.declared.labelled.Labelled.{Labelled}
use Rattle.par_kinds.specs.declared.frame.PlacedFrame.{PlacedFrame}
use Rattle.par_frames.specs.Attribute.{IsAttribute, AddsClasses}
use Rattle.par_place.specs.par_code_form.PoolNames.{IsConstantOf}
use Rattle.par_place.proofs.Growth.{named_kept, caught_kept}
use Rattle.par_compile_laws.specs.Framed.{TABLE, AreAttributes, kinds_of}
use Rattle.par_compile_laws.specs.Framed.{frame_classes}
use Rattle.par_compile_laws.specs.Framed.{IsConstantWith}
use Rattle.par_framing.specs.Added.{IsTablePart, AddsTable, AddsConstants, AreSized}
use Rattle.par_framing.proofs.Kept.{grows}

-- ---- the attribute

pub name_kept : (old new : List Constant) (names : List Name) (index : ℕ)
    → AddsClasses old new names → IsUtf8At old index TABLE → IsUtf8At new index TABLE
name_kept old new names index a h =
    subst (λ (pool : List Constant). IsUtf8At pool index TABLE) (sym a.behind)
    (at-append old a.more index (Utf8 TABLE) h)

pub no_tables : (pool : List Constant) (code : Labelled) (fs : List PlacedFrame)
    (attributes : List Attribute) → length fs ≡ 0 → attributes ≡ []
    → AreAttributes pool code fs attributes
no_tables pool code [] attributes none is = is
no_tables pool code (f ∷ fs) attributes none is = absurd (omega (arith, none))

pub one_table : (pool : List Constant) (code : Labelled) (fs : List PlacedFrame)
    (attributes : List Attribute) (table : Attribute) → 0 < length fs
    → attributes ≡ table ∷ [] → IsUtf8At pool table.name TABLE
    → IsAttribute pool (kinds_of code.start) fs table.bytes
    → AreAttributes pool code fs attributes
one_table pool code [] attributes table some is named bytes = absurd (omega (arith, some))
one_table pool code (f ∷ fs) attributes table some is named bytes =
    record { table = table; alone = is; named = named; bytes = bytes }

pub table_fits : (pool : List Constant) (attributes : List Attribute) (table : Attribute)
    → attributes ≡ table ∷ [] → IsUtf8At pool table.name TABLE → table.name < 2 ^ 16
    → AreSized attributes → AllFit (FitsAttribute pool) attributes
table_fits pool attributes table is named small sized =
    let bytes : AreSized (table ∷ []) = subst AreSized is sized in
    subst (λ as'. AllFit (FitsAttribute pool) as') (sym is) (
      omega arith,
      (record { name = (small, ap is_text named); size = bytes.0 }, tt),
    )

pub none_fit : (pool : List Constant) (attributes : List Attribute) → attributes ≡ []
    → AllFit (FitsAttribute pool) attributes
none_fit pool attributes is =
    subst (λ as'. AllFit (FitsAttribute pool) as') (sym is) (omega arith, tt)

-- ---- what the pool gains

pub table_none : (pool : List Constant) (names : List Name) → AddsTable pool pool names
table_none pool names = record {
  more = [];
  behind = sym (append-nil pool);
  parts = All-nil (IsTablePart pool names);
}

pub table_first : (old new : List Constant) (names : List Name)
    → Adds old new 1 (λ c. c ≡ Utf8 TABLE) → AddsTable old new names
table_first old new names a = record {
  more = a.more;
  behind = a.behind;
  parts =
      All-weaker (λ c. c ≡ Utf8 TABLE) (IsTablePart new names) (λ c h. inl h) a.more a.parts;
}

pub table_then : (a b c : List Constant) (names : List Name) → Adds a b 1 (λ k. k ≡ Utf8 TABLE)
    → AddsClasses b c names → AddsTable a c names
table_then a b c names p q = record {
  more = p.more ++ q.more;
  behind =
      q.behind ∙ ap (λ (pool : List Constant). pool ++ q.more) p.behind
      ∙ append_assoc a p.more q.more;
  parts =
      All-append (IsTablePart c names) p.more q.more
      (All-weaker (λ k. k ≡ Utf8 TABLE) (IsTablePart c names) (λ k h. inl h) p.more p.parts)
      (All-weaker (λ k. (name : Name) × Contains names name × IsClassPart c name k)
      (IsTablePart c names) (λ k h. inr h) q.more q.parts);
}

pub table_among : (old new : List Constant) (names more : List Name)
    → ((name : Name) → Contains names name → Contains more name) → AddsTable old new names
    → AddsTable old new more
table_among old new names more sub a = record {
  more = a.more;
  behind = a.behind;
  parts =
      All-weaker (IsTablePart new names) (IsTablePart new more) (λ c h. part c h) a.more a.parts;
}
  where
    part : (c : Constant) → IsTablePart new names c → IsTablePart new more c
    part c (inl h) = inl h
    part c (inr h) = inr (h.0, sub h.0 h.1, h.2)

pub constants_plain : (frames : Bool) (old new : List Constant) (few : ℕ) (code : Labelled)
    → Adds old new few (IsConstantOf new code) → AddsConstants frames old new code
constants_plain frames old new few code a = record {
  more = a.more;
  behind = a.behind;
  parts =
      All-weaker (IsConstantOf new code) (IsConstantWith frames new code) (λ c h. inl h) a.more
      a.parts;
}

pub constants_then : (frames : Bool) (a b c : List Constant) (few : ℕ) (code : Labelled)
    → frames ≡ true → Adds a b few (IsConstantOf b code) → AddsTable b c (frame_classes code)
    → AddsConstants frames a c code
constants_then frames a b c few code is p q = record {
  more = p.more ++ q.more;
  behind =
      q.behind ∙ ap (λ (pool : List Constant). pool ++ q.more) p.behind
      ∙ append_assoc a p.more q.more;
  parts =
      All-append (IsConstantWith frames c code) p.more q.more
      (All-weaker (IsConstantOf b code) (IsConstantWith frames c code)
      (λ k h. inl (kept k h)) p.more p.parts)
      (All-weaker (IsTablePart c (frame_classes code)) (IsConstantWith frames c code)
      (λ k h. inr (is, h)) q.more q.parts);
}
  where
    kept : (k : Constant) → IsConstantOf b code k → IsConstantOf c code k
    kept k (inl h) =
        inl (named_kept b c (length q.more) (Contains q.more) (grows b c q.more q.behind)
        code.items k h)
    kept k (inr h) =
        inr (caught_kept b c (length q.more) (Contains q.more) (grows b c q.more q.behind)
        code.handlers k h)
