mod Contents
mod Walks
mod Gathering
