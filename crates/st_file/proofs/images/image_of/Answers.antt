use Rattle.serde_json.specs.View.{view}
use Rattle.st_file.proofs.DescribedOnce.{refused_none}
use Rattle.st_file.proofs.images.image_of.Goals as goal

pub returns-clause-refused : goal.returns-clause-refused
returns-clause-refused g c = refused_none (view c.args.value.now) c.load_value.result c.describes_one.ensures.none c.load_value.ensures
