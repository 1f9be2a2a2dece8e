mod Transactions
mod LogFrames
mod CarriedOver
