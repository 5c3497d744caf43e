use Rattle.std.proofs.Common.{◌≡◌, ◌+◌, drop}
use Rattle.scrape_books.specs.Samples.{sample_count, saturated}
use Rattle.scrape_books.proofs.SampleLemmas.{Cuts}
use Rattle.scrape_books.proofs.samples.count_samples.Given as goal

abbrev pub invariant-loop-end : goal.invariant-loop-end
invariant-loop-end l =
    record {
      cuts : Cuts l.body l.start l.end-iterator;
      left : saturated (l.count + sample_count (drop l.start l.body)) ≡ saturated (sample_count l.body);
    }
