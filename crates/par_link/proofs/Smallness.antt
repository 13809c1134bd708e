-- A class file that is spelled has few items.
use Rattle.std.proofs.Common.{◌≡◌, ℕ, true, ◌&&◌, List, [], ◌∷◌, length, map, Some, None, Option}
use Rattle.std.proofs.Common.{refl, ap, subst, ◌∙◌, arith}
use Rattle.std.proofs.lemmas.Bool.{and_parts}
use Rattle.std.proofs.lemmas.List.{length-map}
use Rattle.std.specs.List.{AllByRecursion, list_all}
use Rattle.par_single.specs.par_pool.declared.constant.Constant.{Constant}
use Rattle.par_single.specs.par_class.declared.file.ClassFile.{ClassFile}
use Rattle.par_single.specs.par_class.declared.file.CodeAttr.{CodeAttr}
use Rattle.par_single.specs.par_class.declared.file.Piece.{Piece}
use Rattle.par_single.specs.par_class.declared.file.Piece.TheVariants.{Plain, Code}
use Rattle.par_single.specs.par_class.Layout.{Method, Layout, later, method_of, file_of}
use Rattle.par_single.specs.par_class.Layout as layout
use Rattle.par_single.specs.par_class.Spelling.{FitsPiece, FitsMethod, IsLayout, Spells}
use Rattle.par_references.specs.Conditions.{is_short, IsSmall}

later-short : (o : Option CodeAttr) (c : CodeAttr) → is_short o ≡ true → is_short (Some c) ≡ true
    → is_short (Some (later o c)) ≡ true
later-short None c few short = short
later-short (Some last) c few short = few

pieces-short : (entries : List Constant) (pieces : List Piece)
    → AllByRecursion (FitsPiece entries) pieces
    → is_short (layout.code_in pieces) ≡ true
unfolding layout.code_in
pieces-short entries [] fit = refl
pieces-short entries (Plain a ∷ pieces) fit = pieces-short entries pieces fit.1
pieces-short entries (Code name c ∷ pieces) fit =
    later-short (layout.code_in pieces) c (pieces-short entries pieces fit.1)
    (and_parts _ _ fit.0.1.length_).1

methods-short : (entries : List Constant) (methods : List Method)
    → AllByRecursion (FitsMethod entries) methods
    → list_all (λ m. is_short m.code) (map method_of methods) ≡ true
methods-short entries [] fit = refl
methods-short entries (m ∷ methods) fit =
    ap (λ b. b && list_all (λ m. is_short m.code) (map method_of methods))
    (pieces-short entries m.pieces fit.0.pieces.1)
    ∙ methods-short entries methods fit.1

laid-small : (l : Layout) → IsLayout l → IsSmall (file_of l)
laid-small l fits =
    record {
      entries = fits.entries.few;
      fields = fits.fields.0;
      methods = let same : length (map method_of l.methods) ≡ length l.methods =
          length-map l.methods method_of in omega (arith, fits.methods.0);
      code = methods-short l.entries l.methods fits.methods.1;
    }

pub spelled-small : (file : ClassFile) (bytes : List ℕ) → Spells bytes file → IsSmall file
spelled-small file bytes spells = subst IsSmall spells.is_file (laid-small spells.laid spells.fits)
