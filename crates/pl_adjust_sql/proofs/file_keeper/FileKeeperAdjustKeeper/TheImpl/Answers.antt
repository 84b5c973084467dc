use Rattle.std.proofs.Common.{◌≡◌, ◌≤◌, ℕ, Result, Ok, Err, IsErrOf, refl, arith}
use Rattle.pl_outside.specs.Counts.{Rose}
use Rattle.pl_outside.specs.declared.keeper.KeepError.{KeepError}
use Rattle.pl_outside.specs.declared.keeper.KeepError.TheVariants.{Failed, Memory}
use Rattle.pl_adjust_sql.specs.Reads.{count_after}
use Rattle.pl_adjust_sql.proofs.file_keeper.FileKeeperAdjustKeeper.TheImpl.Goals as goal

after-later : {T : Type 0} (a b : ℕ) (r : Result T KeepError) → b ≡ count_after a r → a ≤ b
after-later a b (Ok x) e = omega (arith, e)
after-later a b (Err Failed) e = omega (arith, e)
after-later a b (Err Memory) e = omega (arith, e)

after-failed : {T : Type 0} (a b : ℕ) (r : Result T KeepError) → b ≡ count_after a r → IsErrOf r Failed → Rose a b
after-failed a b (Ok x) e h = absurd (cc)
after-failed a b (Err Failed) e h = omega (arith, e)
after-failed a b (Err Memory) e h = absurd (cc)

pub load-tells : goal.load-tells
load-tells g c = record {
  appended = λ lists told. absurd (cc);
  logged = c.ensures.logged;
  same = c.ensures.same;
  failed = after-failed _ _ c.result c.ensures.count;
  later = after-later _ _ c.result c.ensures.count;
  never = λ t. absurd (cc);
  counted = refl;
  keeps = refl;
  stays = refl;
}
