-- The lines of a text exposition.
use Rattle.std.specs.Prelude.{ℕ, ◌/◌, ◌%◌, ◌==◌, List, [], ◌++◌, codes, if◌then◌else◌}
use Rattle.std.specs.Fmt.{decimal}
use Rattle.std.specs.List.{flat_map}
use Rattle.exposition.specs.Escaping.{escaped}
use Rattle.exposition.specs.declared.kind.Kind.{Kind}
use Rattle.exposition.specs.declared.kind.Kind.TheVariants.{Counter, Gauge, Histogram}
use Rattle.exposition.specs.declared.durations.Bucket.{Bucket}
use Rattle.exposition.specs.declared.durations.Durations.{Durations}

abbrev pub kind_text : Kind → List ℕ
kind_text Counter = codes "counter"
kind_text Gauge = codes "gauge"
kind_text Histogram = codes "histogram"

-- the two lines that begin a family
abbrev pub family_text : List ℕ → Kind → List ℕ → List ℕ
family_text name kind help = codes "# HELP " ++ name ++ codes " " ++ help ++ codes "\n# TYPE " ++ name ++ codes " " ++ kind_text kind ++ codes "\n"

-- a sample without labels
abbrev pub plain_text : List ℕ → ℕ → List ℕ
plain_text name value = name ++ codes " " ++ decimal value ++ codes "\n"

-- so many milliseconds in seconds, with three digits behind the point
abbrev pub seconds_digits : ℕ → List ℕ
seconds_digits milliseconds = decimal (milliseconds / 1000) ++ codes "." ++ decimal (milliseconds / 100 % 10) ++ decimal (milliseconds / 10 % 10) ++ decimal (milliseconds % 10)

-- a sample without labels, of so many milliseconds
abbrev pub seconds_text : List ℕ → ℕ → List ℕ
seconds_text name milliseconds = name ++ codes " " ++ seconds_digits milliseconds ++ codes "\n"

-- a label and its value
abbrev pub label_text : List ℕ → List ℕ → List ℕ
label_text label said = label ++ codes "=\"" ++ escaped said ++ codes "\""

-- a label before another one
abbrev pub before_text : List ℕ → List ℕ → List ℕ
before_text label said = label_text label said ++ codes ","

-- the labels of a sample with one label
abbrev pub labels_text : List ℕ → List ℕ → List ℕ
labels_text label said = codes "{" ++ label_text label said ++ codes "}"

-- a sample with one label
abbrev pub labelled_text : List ℕ → List ℕ → List ℕ → ℕ → List ℕ
labelled_text name label said value = name ++ codes "{" ++ label_text label said ++ codes "} " ++ decimal value ++ codes "\n"

-- a sample with two labels, whose texts these are
abbrev pub twice_labelled_text : List ℕ → List ℕ → List ℕ → ℕ → List ℕ
twice_labelled_text name first second value = name ++ codes "{" ++ first ++ codes "," ++ second ++ codes "} " ++ decimal value ++ codes "\n"

-- so many microseconds in seconds, with six digits behind the point
abbrev pub fine_digits : ℕ → List ℕ
fine_digits microseconds =
    seconds_digits (microseconds / 1000) ++ decimal (microseconds / 100 % 10) ++ decimal (microseconds / 10 % 10) ++ decimal (microseconds % 10)

-- the digits behind the point that tell more than a zero, and the point
abbrev pub fraction_digits : ℕ → List ℕ
fraction_digits milliseconds =
    if milliseconds % 1000 == 0 then []
    else if milliseconds % 100 == 0 then codes "." ++ decimal (milliseconds / 100 % 10)
    else if milliseconds % 10 == 0 then codes "." ++ decimal (milliseconds / 100 % 10) ++ decimal (milliseconds / 10 % 10)
    else codes "." ++ decimal (milliseconds / 100 % 10) ++ decimal (milliseconds / 10 % 10) ++ decimal (milliseconds % 10)

-- a bound in seconds, as short as may be
abbrev pub bound_digits : ℕ → List ℕ
bound_digits milliseconds = decimal (milliseconds / 1000) ++ fraction_digits milliseconds

-- how many observations are no longer than a bound
abbrev pub bucket_text : List ℕ → List ℕ → List ℕ → ℕ → List ℕ
bucket_text name before bound count =
    name ++ codes "_bucket{" ++ before ++ codes "le=\"" ++ bound ++ codes "\"} " ++ decimal count ++ codes "\n"

abbrev pub bucket_line : List ℕ → List ℕ → Bucket → List ℕ
bucket_line name before b = bucket_text name before (bound_digits b.bound) b.count

-- their sum, and how many there are
abbrev pub totals_text : List ℕ → List ℕ → ℕ → ℕ → List ℕ
totals_text name labels sum count =
    name ++ codes "_sum" ++ labels ++ codes " " ++ fine_digits sum ++ codes "\n" ++ name ++ codes "_count" ++ labels ++ codes " " ++ decimal count ++ codes "\n"

-- the samples of a histogram, with what stands before the bound among the labels of each bucket, and the labels of the others
abbrev pub histogram_text : List ℕ → List ℕ → List ℕ → Durations → List ℕ
histogram_text name before labels d =
    flat_map (bucket_line name before) d.buckets ++ bucket_text name before (codes "+Inf") d.count ++ totals_text name labels d.sum d.count
