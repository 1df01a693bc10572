use Rattle.document_store.proofs.folder_store.FolderStoreStore.fetch.Goals as goal

pub returns-in-Err-clause-cause : goal.returns-in-Err-clause-cause
returns-in-Err-clause-cause c = record { later = c.refuse.ensures.later; why = c.refuse.ensures.why }
