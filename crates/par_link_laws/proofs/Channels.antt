-- Channels that go in come before those that go out, and keep their names.
use Rattle.std.proofs.Common.{◌≡◌, suc, ◌+◌, Bool, true, false, ◌||◌, if◌then◌else◌, List, [], ◌∷◌}
use Rattle.std.proofs.Common.{◌++◌, map, length, refl, sym, ap, subst, ◌∙◌, arith, length-append}
use Rattle.std.proofs.lemmas.List.{length-map, map-append}
use Rattle.std.proofs.lemmas.List.Folds.{list_any-append}
use Rattle.std.proofs.lemmas.Map.Made.{IsDistinct-from_count, length-from_keys}
use Rattle.std.specs.List.{list_any, IsDistinct}
use Rattle.std.specs.Set.{is_member}
use Rattle.std.specs.Str.{bytes_eq}
use Rattle.par_typed.specs.declared.table.ChannelInfo.{ChannelInfo}
use Rattle.par_run_laws.specs.Names.{Name}
use Rattle.par_erase.specs.Shown.{channel_info}
use Rattle.par_erase.specs.Erased.{inputs_among, outputs_among, erased_channels}
use Rattle.par_link_laws.proofs.Lists.{bytes_equiv}

-- ---- the same names in another order

or-first : (x a b r : Bool) → (a || b) ≡ r → ((x || a) || b) ≡ (x || r)
or-first true a b r e = refl
or-first false a b r e = e

or-second : (x a b r : Bool) → (a || b) ≡ r → (a || (x || b)) ≡ (x || r)
or-second true true b r e = refl
or-second true false b r e = refl
or-second false a b r e = e

-- a test passes for one of them where it does in the source
any-split : (p : Name → Bool) (cs : List ChannelInfo)
    → (list_any p (inputs_among cs) || list_any p (outputs_among cs))
    ≡ list_any p (map (λ (c : ChannelInfo). c.name) cs)
any-split p [] = refl
any-split p (c ∷ cs) = by c.is_input (any-split p cs) where
  by : (b : Bool)
      → (list_any p (inputs_among cs) || list_any p (outputs_among cs))
      ≡ list_any p (map (λ (k : ChannelInfo). k.name) cs)
      → (list_any p (if b then c.name ∷ inputs_among cs else inputs_among cs)
      || list_any p (if b then outputs_among cs else c.name ∷ outputs_among cs))
      ≡ (p c.name || list_any p (map (λ (k : ChannelInfo). k.name) cs))
  by true later = or-first (p c.name) _ _ _ later
  by false later = or-second (p c.name) _ _ _ later

count-split : (cs : List ChannelInfo)
    → length (inputs_among cs) + length (outputs_among cs) ≡ length cs
count-split [] = refl
count-split (c ∷ cs) = by c.is_input (count-split cs) where
  by : (b : Bool) → length (inputs_among cs) + length (outputs_among cs) ≡ length cs
      → length (if b then c.name ∷ inputs_among cs else inputs_among cs)
      + length (if b then outputs_among cs else c.name ∷ outputs_among cs)
      ≡ suc (length cs)
  by true e = omega (arith, e)
  by false e = omega (arith, e)

-- what has the same items, and as many, has none twice either
distinct-again : (ns xs : List Name) → IsDistinct bytes_eq ns → length xs ≡ length ns
    → ((q : Name) → is_member bytes_eq ns q ≡ is_member bytes_eq xs q) → IsDistinct bytes_eq xs
distinct-again ns xs apart many same =
    IsDistinct-from_count bytes_equiv xs
    (sym (length-from_keys bytes_equiv ns xs apart same) ∙ sym many)

-- ---- the channels of a class

infos-named : (b : Bool) (names : List Name)
    → map (λ (c : ChannelInfo). c.name) (map (channel_info b) names) ≡ names
infos-named b [] = refl
infos-named b (n ∷ names) = ap (λ (ns : List Name). n ∷ ns) (infos-named b names)

pub channels-named : (cs : List ChannelInfo)
    → map (λ (c : ChannelInfo). c.name) (erased_channels cs)
    ≡ inputs_among cs ++ outputs_among cs
channels-named cs =
    map-append (λ (c : ChannelInfo). c.name) (map (channel_info true) (inputs_among cs))
    (map (channel_info false) (outputs_among cs))
    ∙ (λ i. infos-named true (inputs_among cs) i ++ infos-named false (outputs_among cs) i)

-- names of channels and of others that differ do so in the new order
pub channels-apart : (cs : List ChannelInfo) (others : List Name)
    → IsDistinct bytes_eq (map (λ (c : ChannelInfo). c.name) cs ++ others)
    → IsDistinct bytes_eq (map (λ (c : ChannelInfo). c.name) (erased_channels cs) ++ others)
channels-apart cs others apart =
    subst (λ (ns : List Name). IsDistinct bytes_eq (ns ++ others)) (sym (channels-named cs))
    (distinct-again (old ++ others) ((ins ++ outs) ++ others) apart many same)
  where
    old : List Name
    old = map (λ (c : ChannelInfo). c.name) cs

    ins : List Name
    ins = inputs_among cs

    outs : List Name
    outs = outputs_among cs

    many : length ((inputs_among cs ++ outputs_among cs) ++ others)
        ≡ length (map (λ (c : ChannelInfo). c.name) cs ++ others)
    many =
        omega (
          arith,
          length-append (inputs_among cs ++ outputs_among cs) others,
          length-append (inputs_among cs) (outputs_among cs),
          length-append (map (λ (c : ChannelInfo). c.name) cs) others,
          length-map cs (λ (c : ChannelInfo). c.name),
          count-split cs,
        )

    same : (q : Name)
        → list_any (bytes_eq q) (map (λ (c : ChannelInfo). c.name) cs ++ others)
        ≡ list_any (bytes_eq q) ((inputs_among cs ++ outputs_among cs) ++ others)
    same q =
        list_any-append (bytes_eq q) (map (λ (c : ChannelInfo). c.name) cs) others
        ∙ ap (λ (b : Bool). b || list_any (bytes_eq q) others)
        (sym (any-split (bytes_eq q) cs)
        ∙ sym (list_any-append (bytes_eq q) (inputs_among cs) (outputs_among cs)))
        ∙ sym (list_any-append (bytes_eq q) (inputs_among cs ++ outputs_among cs) others)
