use Rattle.pl_pipeline.specs.Term.{term_at}
use Rattle.pl_laws.proofs.Law as law
use Rattle.pl_laws.proofs.TableLaw.{table_same}
use Rattle.pl_laws.proofs.Texts.{text_same}
use Rattle.pl_terms.specs.Checked.{pipeline_of}
use Rattle.pl_world.proofs.laws.later_data_change_nothing.Goals as goal

pub returns : goal.returns
returns c =
    let p = pipeline_of c.args.checked.now in
    record {
      values = λ w v d day ok ok' agree t a s h. law.values_agree w v d day ok ok' (law.agree-seen w v d day agree) p.names (term_at p.graph t) a s h;
      rows = λ w v d day ok ok' agree from to h. table_same w v d day ok ok' (law.agree-seen w v d day agree) p from to h;
      texts = λ w v d day ok ok' agree format from to h. text_same w v d day agree p format ok ok' from to h;
    }
