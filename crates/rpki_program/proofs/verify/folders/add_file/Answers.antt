use Rattle.std.proofs.Common.{◌≡◌, ◌++◌, ◌∷◌, [], Err, Option, rules, subst}
use Rattle.rpki_cli.specs.Store.{IsRead}
use Rattle.rpki_cli.specs.declared.store.Reason.{Reason}
use Rattle.rpki_cli.specs.declared.store.StoreError.{StoreError}
use Rattle.rpki_relying_party.specs.Steps.{has_key}
use Rattle.rpki_program.specs.Verify.Files.{AreDigests, folder_with, path_in}
use Rattle.rpki_program.specs.Verify.Files.{unread_with, with_files}
use Rattle.rpki_program.proofs.Foldered.{digest-added, digest-denied}
use Rattle.rpki_program.proofs.verify.folders.add_file.Goals as goal

pub returns-in-Err-Unreadable-clause-digests : goal.returns-in-Err-Unreadable-clause-digests
returns-in-Err-Unreadable-clause-digests g c = λ files d.
    let told = g.S.Store.told c.args.store.now in
    let f = folder_with told c.args.folder in
    let has = has_key c.args.digests.now.known in
    let unread = c.args.digests.now.unread in
    let name = c.args.name.now in
    let w = c.in-Err-Unreadable in
    let is : unread_with unread w.reason ≡ c.unread_with-digests.result = search rules in
    subst (λ (u : Option Reason). AreDigests (with_files f (files ++ name ∷ [])) has u) is
    (digest-denied f has unread files name d w.reason
    (subst (λ (e : StoreError). IsRead (told (path_in c.args.folder.path.now name)) (Err e))
    w.field-0-is w.ensures.told))

pub returns-in-Ok-clause-digests : goal.returns-in-Ok-clause-digests
returns-in-Ok-clause-digests g c =
    digest-added (folder_with (g.S.Store.told c.args.store.now) c.args.folder) c.args.name.now
    (has_key c.args.digests.now.known) (has_key c.push_digest.new.known)
    c.args.digests.now.unread c.in-Ok.octets c.push_digest.result c.in-Ok.ensures.told
    c.push_digest.ensures
