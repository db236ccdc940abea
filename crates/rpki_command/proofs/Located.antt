-- Files that are no locators.
use Rattle.std.proofs.Common.{◌≡◌, ℕ, List, Err}
use Rattle.rpki_tal.specs.declared.error.ReadError.{ReadError}
use Rattle.rpki_tal.specs.declared.error.ReadError.TheVariants as error
use Rattle.rpki_show.specs.Locator.{IsLocatorOf}
use Rattle.rpki_command.specs.Anchors.{IsLocated, locator_fault}
use Rattle.rpki_command.specs.declared.anchors.AnchorError.{AnchorError}

-- what a file that is no locator makes
pub no-anchor : (octets : List ℕ) (e : ReadError) (fault : AnchorError) → fault ≡ locator_fault e
    → IsLocatorOf octets (Err e) → IsLocated octets (Err fault)
no-anchor octets error.Memory fault i h = rw i tt
no-anchor octets error.Io fault i h = rw i h
no-anchor octets error.UnexpectedEof fault i h = rw i h
no-anchor octets (error.BadUri cause) fault i h = rw i h
no-anchor octets error.BadKeyInfoEncoding fault i h = rw i h
no-anchor octets (error.BadKeyInfo cause) fault i h = rw i h
