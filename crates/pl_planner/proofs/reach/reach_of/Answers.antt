use Rattle.std.proofs.Common.{rules, arith, ◌≡◌, ◌≤◌, ◌<◌, ◌+◌, ◌*◌, ◌-ℤ◌, pos, sym, ◌∙◌, ap, to_z, w64, FitsSigned}
use Rattle.std.proofs.lemmas.Int.{to_z-of_z, to_z_pos}
use Rattle.pl_spec.specs.Limits.{most_sessions, most_terms, most_window}
use Rattle.pl_terms.specs.Checked.{pipeline_of}
use Rattle.pl_planner.proofs.Pipelines.{pipeline-for}
use Rattle.pl_planner.proofs.Lows.{least-is}
use Rattle.pl_planner.proofs.reach.reach_of.Goals as goal

pub returns : goal.returns
returns c = λ outs are have.
    let ok = pipeline-for (pipeline_of c.args.checked.now) c.requires.asked.checked outs c.args.uses.now are in
    let r = least-is c.args.sessions.now c.requires.asked.days.ascend (pipeline_of c.args.checked.now).graph outs c.args.uses.now ok are c.args.session have in
    let few : c.most_back.result ≤ c.args.session + most_window * (most_terms + 1) = c.most_back.ensures.few in
    let most = c.requires.asked.days.few in
    let in_days = c.requires.within in
    let fits : c.args.session < most_sessions = omega arith in
    let f1 : to_z w64 c.args.session ≡ pos c.args.session = to_z_pos w64 c.args.session (omega arith) in
    let f2 : to_z w64 c.most_back.result ≡ pos c.most_back.result = to_z_pos w64 c.most_back.result (omega arith) in
    let fit : FitsSigned w64 (pos c.args.session -ℤ pos c.most_back.result) = search rules in
    rw (f1, f2, to_z-of_z w64 (pos c.args.session -ℤ pos c.most_back.result) fit) (ap (λ n. pos c.args.session -ℤ pos n) c.most_back.ensures.value ∙ sym r)
