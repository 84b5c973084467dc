use Rattle.std.proofs.Common.{rules, subst, sym, ap, ◌∙◌, length, take, ◌<◌, ◌≡◌, w64, FitsSigned, All}
use Rattle.std.proofs.lemmas.Int.{to_z-of_z}
use Rattle.pl_pipeline.specs.declared.RankOrder.TheVariants.{Ascending}
use Rattle.pl_cross.specs.Section.{cross_of, order_of}
use Rattle.pl_cross.specs.Listing.{HasCell, HaveOwnPlaces, gathered}
use Rattle.pl_cross.proofs.Giving.{HaveAnswers, listed-given, listed-others, told-given, not-for-all}
use Rattle.pl_cross.proofs.Members.{gathered-cells, gathered-own, gathered-places}
use Rattle.pl_cross.proofs.walk.answer_members.Goals as goal

pub summarize-requires-clause-cells : goal.summarize-requires-clause-cells
summarize-requires-clause-cells c =
    subst (λ l. All HasCell l) (sym c.gather-count.ensures.listed) (gathered-cells c.order_of.result c.args.session.now.values.now c.args.members.now c.requires.session.cells c.requires.within)

pub summarize-requires-clause-own : goal.summarize-requires-clause-own
summarize-requires-clause-own c =
    subst HaveOwnPlaces (sym c.gather-count.ensures.listed) (gathered-own c.order_of.result c.args.session.now.values.now c.args.members.now c.requires.own)

pub answer_listed-requires : goal.answer_listed-requires
answer_listed-requires c =
    let vs = c.args.session.now.values.now in
    let members = c.args.members.now in
    let listed = sym c.gather-count.ensures.listed in
    record {
      right = c.requires.right;
      listed = not-for-all c.args.section c.in_default.not-Summarize;
      few = search rules;
      scratch = search rules;
      cells = subst (λ l. All HasCell l) listed (gathered-cells c.order_of.result vs members c.requires.session.cells c.requires.within);
      own = subst HaveOwnPlaces listed (gathered-own c.order_of.result vs members c.requires.own);
      within = subst (λ l. All (λ e. e.place < length c.args.out.now) l) listed
          (gathered-places c.order_of.result vs members (length c.args.out.now) (subst (λ n. All (λ m. m.place < n) members) (sym c.requires.out) c.requires.within));
      room = search rules;
    }

pub returns-in-Summarize-clause-given : goal.returns-in-Summarize-clause-given
returns-in-Summarize-clause-given c =
    let s = c.args.session.now in
    let members = c.args.members.now in
    let fits : FitsSigned w64 c.summarize.result = search rules in
    let ascending : c.order_of.result ≡ Ascending = c.order_of.ensures ∙ ap (λ x. order_of (cross_of x)) c.in-Summarize.is in
    subst (λ x. HaveAnswers (cross_of x) s members c.tell.new.out) (sym c.in-Summarize.is)
    (told-given c.in-Summarize.summary s members (take c.gather-count.result c.gather-count.new.listed) c.args.out.now c.tell.new.out c.summarize.result
    (c.gather-count.ensures.listed ∙ ap (λ o. gathered o s.values.now members) ascending) c.summarize.ensures
    (λ j d l. c.tell.ensures.told j d l ∙ to_z-of_z w64 c.summarize.result fits))

pub returns-in_default : goal.returns-in_default
returns-in_default c =
    let kind = cross_of c.args.section in
    let s = c.args.session.now in
    let members = c.args.members.now in
    let own = not-for-all c.args.section c.in_default.not-Summarize in
    let listed = take c.gather-count.result c.gather-count.new.listed in
    record {
      listed = search rules;
      scratch = search rules;
      answers = search rules;
      length = search rules;
      given = listed-given kind s members c.order_of.result listed c.args.out.now c.answer_listed.new.out c.order_of.ensures c.gather-count.ensures.listed own c.answer_listed.ensures.given;
      others = listed-others kind s members c.order_of.result listed c.args.out.now c.answer_listed.new.out c.order_of.ensures c.gather-count.ensures.listed own c.answer_listed.ensures.others;
    }
