-- Files that show a program that is secure for an actor are so too.
use Rattle.std.proofs.Common.{◌≡◌, ℕ, ◌<◌, List, ◌++◌, sym, ap, ◌∙◌, subst}
use Rattle.par_values.specs.declared.inputs.Inputs.{Inputs}
use Rattle.par_secrecy.specs.Runs.{Witnessed}
use Rattle.par_secrecy.specs.Subject.{Subject}
use Rattle.par_secrecy.specs.Shown.{Observer, Alike}
use Rattle.par_secrecy.specs.Secure.{events}
use Rattle.par_secrecy.specs.Target.{Target, FitsFiles}
use Rattle.par_secrecy.specs.Shows.{Shows}
use Rattle.par_secrecy.specs.SecureFiles.{Witnesses, seen}
use Rattle.par_secrecy.proofs.Carried.{fits_program, get_longer, take_longer, seen_more}
use Rattle.par_audit.specs.SecureFor.{NextEqual, SecureFor}
use Rattle.par_audit.specs.Laws.{ShownFilesAreSecureFor}

-- what holds of longer lists holds of their fronts
equal_cut : (xs ys us vs : List Witnessed) (k : ℕ) → NextEqual (xs ++ us) (ys ++ vs) k
    → NextEqual xs ys k
equal_cut xs ys us vs k h a b p q e =
    h a b (get_longer xs us k a p) (get_longer ys vs k b q)
    (ap events (take_longer xs us k a p) ∙ e ∙ sym (ap events (take_longer ys vs k b q)))

module _ (target : Target) (subject : Subject) (shows : Shows target subject) where
  agree_files : (actor : ℕ) → SecureFor subject actor → (o : Observer) → o.actor ≡ actor
      → o.actor < subject.actors → (one other : Inputs)
      → FitsFiles target one → FitsFiles target other
      → Alike subject o one other → (m n k : ℕ) (ws vs : List Witnessed)
      → Witnesses target subject one m ws → Witnesses target subject other n vs
      → NextEqual (seen subject o ws) (seen subject o vs) k
  agree_files actor secure o is declared one other fits fits' alike m n k ws vs w v =
      let whole =
      secure o is declared one other (fits_program target subject one shows fits)
      (fits_program target subject other shows fits') alike w.steps v.steps k in
      equal_cut (seen subject o ws) (seen subject o vs) (seen subject o w.more)
      (seen subject o v.more) k
      (subst (λ (xs : List Witnessed). NextEqual xs (seen subject o vs ++ seen subject o v.more) k)
      (seen_more subject o (subject.run one w.steps).events ws w.more w.first)
      (subst (λ (ys : List Witnessed).
      NextEqual (seen subject o (subject.run one w.steps).events) ys k)
      (seen_more subject o (subject.run other v.steps).events vs v.more v.first) whole))

pub files_for : ShownFilesAreSecureFor
files_for target subject actor shows files secure = record {
  witnessed = files.witnessed;
  agree = agree_files target subject shows actor secure;
}
