use Rattle.std.proofs.Common.{◌≡◌, ◌≤◌, ◌+◌, ◌*◌, sym, subst, refl, length, arith}
use Rattle.pl_spec.specs.Limits.{saturated}
use Rattle.pl_exec.specs.declared.course.Course.{Course}
use Rattle.pl_exec.specs.Tasks.{IsArray, assets_in, term_steps}
use Rattle.pl_exec.specs.ChunkInputs.{HasRows, IsColumnRun, node_in, task_in}
use Rattle.pl_exec.proofs.compute.fill_last.Goals as goal

pub fill_bars-applied-requires-clause-run : goal.fill_bars-applied-requires-clause-run
fill_bars-applied-requires-clause-run g c = subst (λ (x : Course). IsColumnRun x.chunk.now x.workspace.now x.term.0 (node_in x)) (sym c.course_of-course.ensures.is) c.requires.run

pub fill_bars-applied-requires-clause-room : goal.fill_bars-applied-requires-clause-room
fill_bars-applied-requires-clause-room g c = subst (λ (x : Course). assets_in (task_in x) * x.count ≤ length c.args.own.now) (sym c.course_of-course.ensures.is) c.requires.room

pub fill_bars-applied-requires-clause-first : goal.fill_bars-applied-requires-clause-first
fill_bars-applied-requires-clause-first g c = subst (λ (x : Course). HasRows (task_in x) x.term.0 (node_in x) 0 c.args.first.now) (sym c.course_of-course.ensures.is) c.requires.first

pub fill_bars-applied-requires-clause-second : goal.fill_bars-applied-requires-clause-second
fill_bars-applied-requires-clause-second g c = subst (λ (x : Course). HasRows (task_in x) x.term.0 (node_in x) 1 c.args.second.now) (sym c.course_of-course.ensures.is) c.requires.second

pub fill_bars-applied-requires-clause-third : goal.fill_bars-applied-requires-clause-third
fill_bars-applied-requires-clause-third g c = subst (λ (x : Course). HasRows (task_in x) x.term.0 (node_in x) 2 c.args.third.now) (sym c.course_of-course.ensures.is) c.requires.third

pub returns : goal.returns
returns g c = record {
  array = subst (λ (x : Course). IsArray (task_in x) x.term.0 c.fill_bars-applied.new.own) c.course_of-course.ensures.is c.fill_bars-applied.ensures.array;
  slots = refl;
  len = refl;
  peak = omega (arith, c.requires.counted);
  held = omega (arith, c.live-held.ensures);
  cost = subst (λ (x : Course). c.fill_bars-applied.new.steps ≡ c.args.steps.now + term_steps (task_in x) x.term.0) c.course_of-course.ensures.is c.fill_bars-applied.ensures.cost;
  applied = subst (λ (x : Course). c.fill_bars-applied.result ≡ saturated (term_steps (task_in x) x.term.0)) c.course_of-course.ensures.is c.fill_bars-applied.ensures.applied;
}
