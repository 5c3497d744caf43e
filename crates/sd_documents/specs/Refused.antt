-- What a refused label makes of a document.
use Rattle.label_sets.specs.declared.error.LabelError.{LabelError}
use Rattle.label_sets.specs.declared.error.LabelError.TheVariants as label
use Rattle.sd_documents.specs.declared.error.SdError.{SdError}
use Rattle.sd_documents.specs.declared.error.SdError.TheVariants.{BadLabelName, Memory}

abbrev pub refused_as : LabelError → SdError
refused_as label.BadLabelName = BadLabelName
refused_as label.Memory = Memory
