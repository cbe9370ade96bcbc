use Rattle.image.proofs.Placed.{whole}
use Rattle.image.proofs.image.ImageTotalFormat.known.Goals as goal

pub returns-clause-whole : goal.returns-clause-whole
returns-clause-whole c = whole c.args._bytes.now (λ k. (c.type_inv._bytes k).fits)
